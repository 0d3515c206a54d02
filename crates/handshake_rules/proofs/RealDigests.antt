-- The digests of real nodes, computed by the definitions. Assumes nothing.
use mathlib.Core.Path.{refl}
use Rattle.wire.specs.Decimal.{decimal, digits}
use Rattle.md5_digest.specs.Md5.{md5, process, pad, with_bits, compress, add, initial, run, op, ◌<<<◌, block}
use Rattle.handshake_rules.specs.Cookie.{digest_of}
use Rattle.handshake_rules.specs.DigestClaims.{RealDigests}

pub real_digests : RealDigests
unfolding digest_of decimal digits md5 process pad with_bits compress add initial run op ◌<<<◌ block
real_digests = refl
