-- A run from a reader to a writer, read by read. Assumes nothing.
use Rattle.std.proofs.Common.{◌≡◌, ℕ, ◌+◌, ◌<◌, ◌≤◌, List, [], ◌∷◌, ◌++◌, length, Option, None, Some, refl, sym, ap, ◌∙◌, subst, append_assoc, append-nil, length-append, take, arith, true}
use Rattle.std.specs.Io.KnownBytes.{Appends, Consumes, IsAtEnd}
use Rattle.std.proofs.KnownBytes.{Appends-nil, Appends-trans}
use lib.Seq.{length-take-le}
use Rattle.wire.specs.Run.{part}
use Rattle.epmd_rules.specs.State.{Registry}
use Rattle.script_lines.specs.declared.script.Awaits.TheVariants.{Operation, Connection, Frame, Nothing}
use Rattle.script_lines.specs.declared.script.Awaits.{Awaits}
use Rattle.script_lines.specs.State.{Script}
use Rattle.script_lines.specs.Script.{has_ended, line_of, end_of, started}
use Rattle.script_lines.specs.Lines.{lines_from, printed_from, to_print, printed, take_of, PrintedOn, PrintsAll}
use Rattle.script_lines.proofs.PartLaws.{printed_none, printed_more}

-- of an input xs some is read by n reads, and what it prints is written; so much of it is left
pub record Reads (xs rest : List ℕ) (out out' : Option (List ℕ)) (s : Script) (held : List ℕ) (n : ℕ) : Type 0 where
  pub bytes : List ℕ
  pub appended : Appends out out' bytes
  pub is : printed xs ≡ bytes ++ to_print s held rest
  pub left : n + length rest ≤ length xs

abbrev pub GoesOn : Option (List ℕ) → Option (List ℕ) → Option (List ℕ) → Option (List ℕ) → Script → List ℕ → ℕ → Type 0
GoesOn None r out out' s held n = Unit {0}
GoesOn (Some xs) None out out' s held n = ⊥
GoesOn (Some xs) (Some rest) out out' s held n = Reads xs rest out out' s held n

-- nothing of a part yet
pub printed_on_none : (s : Script) (held xs : List ℕ) (o : Option (List ℕ)) → PrintedOn s held xs s held xs o o
unfolding printed_none
printed_on_none s held xs o = record { printed = printed_none s held xs; appended = Appends-nil o }

-- a line more of a part
pub printed_on : (s : Script) (held xs : List ℕ) (s₁ : Script) (held₁ rest₁ : List ℕ) (s₂ : Script) (held₂ rest₂ : List ℕ) (o o₁ o₂ : Option (List ℕ))
    → PrintedOn s held xs s₁ held₁ rest₁ o o₁ → Appends o₁ o₂ (take_of s₁ held₁ rest₁).bytes
    → s₂ ≡ (take_of s₁ held₁ rest₁).script → held₂ ≡ (take_of s₁ held₁ rest₁).held → rest₂ ≡ (take_of s₁ held₁ rest₁).rest
    → PrintedOn s held xs s₂ held₂ rest₂ o o₂
unfolding printed_more
printed_on s held xs s₁ held₁ rest₁ s₂ held₂ rest₂ o o₁ o₂ p a e f g =
    record {
      printed = printed_more s held xs s₁ held₁ rest₁ s₂ held₂ rest₂ p.printed e f g;
      appended = Appends-trans _ _ _ _ _ p.appended a;
    }

printed_started : (xs : List ℕ) → printed xs ≡ to_print started [] xs
unfolding printed
printed_started xs = refl

pub goes_first : (r out : Option (List ℕ)) (s : Script) (held : List ℕ) → s ≡ started → held ≡ [] → GoesOn r r out out s held 0
goes_first None out s held e f = tt
goes_first (Some xs) out s held e f =
    record {
      bytes = [];
      appended = Appends-nil out;
      is = printed_started xs ∙ sym (ap (λ (z : Script). to_print z held xs) e ∙ ap (λ (l : List ℕ). to_print started l xs) f);
      left = omega arith;
    }

pub goes_on : (r r₁ r₂ out out₁ out₂ : Option (List ℕ)) (s s' : Script) (held held' bs : List ℕ) (n : ℕ) → GoesOn r r₁ out out₁ s held n → Consumes r₁ r₂ bs → 0 < length bs
    → PrintedOn s held bs s' held' [] out₁ out₂ → GoesOn r r₂ out out₂ s' held' (n + 1)
goes_on None r₁ r₂ out out₁ out₂ s s' held held' bs n g c b p = tt
goes_on (Some xs) None r₂ out out₁ out₂ s s' held held' bs n g c b p = absurd g
goes_on (Some xs) (Some rest) None out out₁ out₂ s s' held held' bs n g c b p = absurd c
goes_on (Some xs) (Some rest) (Some rest') out out₁ out₂ s s' held held' bs n g c b p =
    record {
      bytes = g.bytes ++ p.printed.bytes;
      appended = Appends-trans _ _ _ _ _ g.appended p.appended;
      is = g.is ∙ ap (λ (l : List ℕ). g.bytes ++ to_print s held l) c ∙ ap (λ (l : List ℕ). g.bytes ++ l) (p.printed.is rest')
          ∙ sym (append_assoc g.bytes p.printed.bytes (to_print s' held' rest'));
      left = omega (arith, g.left, simp length-append at (ap length c));
    }

pub part_zero : (n : ℕ) (xs : List ℕ) → part 0 n xs ≡ take n xs
unfolding part
part_zero n xs = refl

-- a read gave the first n bytes of a buffer xs
pub goes_read : (r r₁ r₂ out out₁ out₂ : Option (List ℕ)) (s s' : Script) (held held' xs bs : List ℕ) (k n : ℕ) → GoesOn r r₁ out out₁ s held n → Consumes r₁ r₂ (take k xs)
    → bs ≡ take k xs → k ≤ length xs → 0 < k → PrintedOn s held bs s' held' [] out₁ out₂ → GoesOn r r₂ out out₂ s' held' (n + 1)
goes_read r r₁ r₂ out out₁ out₂ s s' held held' xs bs k n g c e l b p =
    goes_on r r₁ r₂ out out₁ out₂ s s' held held' bs n g (subst (Consumes r₁ r₂) (sym e) c) (omega (arith, ap length e, length-take-le k xs l)) p

pub goes_end : (r r₁ r₂ out out₁ out₂ : Option (List ℕ)) (s : Script) (held bs : List ℕ) (n : ℕ) → GoesOn r r₁ out out₁ s held n → Consumes r₁ r₂ bs → bs ≡ [] → IsAtEnd r₂
    → Appends out₁ out₂ (to_print s held []) → PrintsAll r out out₂
goes_end None r₁ r₂ out out₁ out₂ s held bs n g c b e a = tt
goes_end (Some xs) None r₂ out out₁ out₂ s held bs n g c b e a = absurd g
goes_end (Some xs) (Some rest) None out out₁ out₂ s held bs n g c b e a = absurd c
goes_end (Some xs) (Some rest) (Some rest') out out₁ out₂ s held bs n g c b e a =
    let k : rest ≡ [] = c ∙ ap (λ (l : List ℕ). l ++ rest') b ∙ e in
    λ h. subst (Appends out out₂) (sym (g.is ∙ ap (λ (l : List ℕ). g.bytes ++ to_print s held l) k)) (Appends-trans _ _ _ _ _ g.appended a)

-- a run that has ended prints nothing more
quiet_prints : (r : Registry) (ls : List (List ℕ)) → printed_from (record { registry = r; awaits = Nothing }) ls ≡ []
unfolding printed_from line_of end_of
quiet_prints r [] = refl
quiet_prints r (l ∷ ls) = quiet_prints r ls

ended_prints : (s : Script) (ls : List (List ℕ)) → has_ended s.awaits ≡ true → printed_from s ls ≡ []
ended_prints s ls h = by s.awaits h where
  by : (a : Awaits) → has_ended a ≡ true → printed_from (record { registry = s.registry; awaits = a }) ls ≡ []
  by Operation e = cc
  by Connection e = cc
  by (Frame c) e = cc
  by Nothing e = quiet_prints s.registry ls

pub goes_ended : (r r₁ out out₁ : Option (List ℕ)) (s : Script) (held : List ℕ) (n : ℕ) → GoesOn r r₁ out out₁ s held n → has_ended s.awaits ≡ true → PrintsAll r out out₁
goes_ended None r₁ out out₁ s held n g e = tt
goes_ended (Some xs) None out out₁ s held n g e = absurd g
goes_ended (Some xs) (Some rest) out out₁ s held n g e =
    λ h. subst (Appends out out₁) (sym (g.is ∙ ap (λ (l : List ℕ). g.bytes ++ l) (ended_prints s (lines_from held rest) e) ∙ append-nil g.bytes)) g.appended

-- and there are fewer reads than bytes of input
pub goes_out : (r r₁ out out₁ : Option (List ℕ)) (s : Script) (held : List ℕ) (n : ℕ) → GoesOn r r₁ out out₁ s held n → n ≡ 18446744073709551615 → PrintsAll r out out₁
goes_out None r₁ out out₁ s held n g e = tt
goes_out (Some xs) None out out₁ s held n g e = absurd g
goes_out (Some xs) (Some rest) out out₁ s held n g e = λ h. absurd (omega (arith, g.left))
