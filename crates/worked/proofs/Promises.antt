-- Every claim of specs/Claims, with its proof. Assumes nothing.
use Rattle.worked.specs.Claims.{Promises}
use Rattle.worked.proofs.Frames as frames
use Rattle.worked.proofs.Flags as flags
use Rattle.worked.proofs.Handshake as handshake

pub promises : Promises
promises = record { frames = frames.worked; flags = flags.worked; handshake = handshake.worked }
