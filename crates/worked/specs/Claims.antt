-- All that is proved here, in one record (Promises.promises): a claim that is dropped is missed.
use Rattle.worked.specs.Frames.{Worked}
use Rattle.worked.specs.Flags.{Everywhere}
use Rattle.worked.specs.Handshake.{RealHandshake}

pub record Promises : Type 0 where
  pub frames : Worked
  pub flags : Everywhere
  pub handshake : RealHandshake
