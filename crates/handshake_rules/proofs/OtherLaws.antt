-- A refusal other than 9 tells its number alone. Assumes nothing.
use mathlib.Core.Path.{◌≡◌, refl}
use mathlib.Core.Bool.{false}
use lib.Dec.{eqb}
use Rattle.handshake_rules.specs.declared.flags.FlagFlaw.{FlagFlaw}
use Rattle.handshake_rules.specs.declared.refusal.Refusal.{Refusal}
use Rattle.handshake_rules.specs.declared.refusal.Refusal.TheVariants.{OutputTooShort, SlotNotTaken, NotAFrame, UnknownTag, BadLength, BadName, BadFlags, AlreadyConnected, BadCookie, PeerTaken, NoFreeSlot, UnknownStatus, WrongDigest, Declined}
use Rattle.handshake_rules.specs.Refusals.{only, why_of}

-- a refusal tells its number alone, or it is 9 and carries a flaw
pub data Told : Refusal → Type 0 where
  number_only : (r : Refusal) → why_of r ≡ only (why_of r).number → eqb (why_of r).number 9 ≡ false → Told r
  with_flags : (w : FlagFlaw) → Told (BadFlags w)

pub told : (r : Refusal) → Told r
told OutputTooShort = number_only OutputTooShort refl refl
told SlotNotTaken = number_only SlotNotTaken refl refl
told NotAFrame = number_only NotAFrame refl refl
told UnknownTag = number_only UnknownTag refl refl
told BadLength = number_only BadLength refl refl
told BadName = number_only BadName refl refl
told (BadFlags w) = with_flags w
told AlreadyConnected = number_only AlreadyConnected refl refl
told BadCookie = number_only BadCookie refl refl
told PeerTaken = number_only PeerTaken refl refl
told NoFreeSlot = number_only NoFreeSlot refl refl
told UnknownStatus = number_only UnknownStatus refl refl
told WrongDigest = number_only WrongDigest refl refl
told Declined = number_only Declined refl refl

pub other : (r : Refusal) → ((w : FlagFlaw) → r ≡ BadFlags w → ⊥) → why_of r ≡ only (why_of r).number
other r h = by (told r) h
  where
    by : {r : Refusal} → Told r → ((w : FlagFlaw) → r ≡ BadFlags w → ⊥) → why_of r ≡ only (why_of r).number
    by (number_only q e n) h = e
    by (with_flags w) h = absurd (h w refl)
