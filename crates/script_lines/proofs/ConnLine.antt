-- A line names a connection exactly if it is the key and a number's decimal text. Assumes nothing.
use Prim.Native.Nat.{ℕ, ◌<◌, ◌^◌}
use mathlib.Core.Path.{◌≡◌, refl, sym, ◌∙◌, ap, subst}
use mathlib.Core.Bool.{Bool, true, false, cond}
use mathlib.Core.List.{List, ◌++◌}
use native.Mathlib.Omega.{arith}
use lib.ListN.{length, take, drop, take-append-drop}
use lib.Dec.{ltb}
use borrow.Author.Tests.{le-ltb}
use Rattle.wire.specs.Run.{same_bytes}
use Rattle.wire.specs.Decimal.{decimal, value}
use Rattle.wire.proofs.RunLaws.{same_decides}
use Rattle.wire.proofs.DecimalLaws.{decimal_text}
use Rattle.script_lines.specs.declared.line.Item.{Item}
use Rattle.script_lines.specs.declared.line.Item.TheVariants.{Op, Conn, Hex}
use Rattle.std.proofs.Common.{Option, Some, None}
use Rattle.script_lines.specs.Text.{is_decimal, is_hex}
use Rattle.script_lines.specs.Line.{item_of, conn_item, hex_item, starts_with, conn_key, hex_key, op_req}
use Rattle.script_lines.specs.Claims.{ConnLine}
use Rattle.script_lines.proofs.ReadBack.{decimal_back, decimal_taken}

-- items of different kinds are not equal
abbrev Named : Option Item → Type 0
Named (Some Op) = ⊥
Named (Some (Conn n)) = Unit {0}
Named (Some Hex) = ⊥
Named None = ⊥

abbrev number : Option Item → ℕ
number (Some Op) = 0
number (Some (Conn n)) = n
number (Some Hex) = 0
number None = 0

other : {i : Option Item} {n : ℕ} → i ≡ Some (Conn n) → (Named i → ⊥) → ⊥
other e no_name = no_name (subst Named (sym e) tt)

-- a line that starts with the key is the key and the rest
split : (l : List ℕ) → starts_with conn_key l ≡ true → l ≡ conn_key ++ drop 5 l
unfolding starts_with
split l e = sym (take-append-drop 5 l) ∙ ap (λ (k : List ℕ). k ++ drop 5 l) ((same_decides (take 5 l) conn_key).0 e)

-- a number that is named by the text behind the key
from_text : (l : List ℕ) (n : ℕ) → l ≡ conn_key ++ drop 5 l → conn_item (drop 5 l) ≡ Some (Conn n) → (n < 2 ^ 32) × (l ≡ conn_key ++ decimal n)
unfolding conn_item
from_text l n s = by (is_decimal (drop 5 l)) refl
  where
    by : (b : Bool) → is_decimal (drop 5 l) ≡ b → cond b (Some (Conn (value (drop 5 l)))) None ≡ Some (Conn n) → (n < 2 ^ 32) × (l ≡ conn_key ++ decimal n)
    by true d e =
        let v : value (drop 5 l) ≡ n = ap number e in
        let t = decimal_taken (drop 5 l) d in
        (subst (λ (m : ℕ). m < 2 ^ 32) v t.0, s ∙ ap (λ (x : List ℕ). conn_key ++ x) (t.1 ∙ ap decimal v))
    by false d e = absurd (other e (λ x. x))

not_hex : (cs : List ℕ) (n : ℕ) → hex_item cs ≡ Some (Conn n) → ⊥
unfolding hex_item
not_hex cs n = by (is_hex cs)
  where
    by : (b : Bool) → cond b (Some Hex) None ≡ Some (Conn n) → ⊥
    by true e = other e (λ x. x)
    by false e = other e (λ x. x)

taken : (l : List ℕ) (n : ℕ) → item_of l ≡ Some (Conn n) → (n < 2 ^ 32) × (l ≡ conn_key ++ decimal n)
unfolding item_of
taken l n = by (ltb 800 (length l)) (same_bytes l op_req) (starts_with conn_key l) (starts_with hex_key l) refl
  where
    by : (long op conn hex : Bool) → starts_with conn_key l ≡ conn
        → cond long None (cond op (Some Op) (cond conn (conn_item (drop 5 l)) (cond hex (hex_item (drop 4 l)) None))) ≡ Some (Conn n)
        → (n < 2 ^ 32) × (l ≡ conn_key ++ decimal n)
    by true op conn hex c e = absurd (other e (λ x. x))
    by false true conn hex c e = absurd (other e (λ x. x))
    by false false true hex c e = from_text l n (split l c) e
    by false false false true c e = absurd (not_hex (drop 4 l) n e)
    by false false false false c e = absurd (other e (λ x. x))

given : (n : ℕ) → n < 2 ^ 32 → item_of (conn_key ++ decimal n) ≡ Some (Conn n)
unfolding item_of starts_with conn_item same_bytes
given n h =
    let d = decimal_back n h in
    rw (le-ltb 800 (length (conn_key ++ decimal n)) (omega (arith, (decimal_text n h).few)), d.0) (ap (λ (m : ℕ). Some (Conn m)) d.1)

pub conn_line : ConnLine
conn_line l n = (taken l n, given n)
