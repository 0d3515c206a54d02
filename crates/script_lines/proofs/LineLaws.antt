-- Laws of lines. Assumes nothing.
use Prim.Native.Nat.{ℕ, suc, ◌+◌, ◌≤◌, ◌<◌}
use mathlib.Core.Path.{◌≡◌, sym, ap, ◌∙◌}
use mathlib.Core.Bool.{Bool, true, false, cond, not}
use mathlib.Core.List.{List, [], ◌∷◌}
use native.Mathlib.Numerals.{add-one}
use native.Mathlib.Omega.{arith}
use lib.ListN.{length, get_or, take, drop, length-take, drop_of_length-le}
use lib.Seq.{drop-cons}
use lib.Dec.{eqb, leb}
use borrow.Author.Tests.{eq-eqb, ne_eqb, lt-ltb, le-ltb, le-leb, lt-leb}
use Rattle.wire.specs.Decimal.{value}
use Rattle.wire.specs.Run.{same_bytes}
use Rattle.wire.proofs.RunLaws.{same_decides, same_std, same_length_ne}
use Rattle.script_lines.specs.declared.line.Item.TheVariants.{Op, Conn}
use Rattle.std.proofs.Common.{Option, Some, None, refl}
use Rattle.std.specs.List.{position_or_len}
use Rattle.std.specs.Option.{option_map}
use Rattle.std.specs.Cmp.Lexicographic.{pointwise}
use Rattle.script_lines.specs.Text.{all_digits, leads_zero, is_decimal}
use Rattle.script_lines.specs.Line.{op_req, conn_key, hex_key, starts_with, conn_item, hex_item, item_of}
use Rattle.script_lines.specs.Lines.{up_to}

-- ---- what stands behind a key

-- a number that fits, and one that does not
pub small_fits : (n v : ℕ) → n ≡ v → v ≤ 4294967295 → Some v ≡ cond (leb n 4294967295) (Some n) None
small_fits n v e h = ap Some (sym e) ∙ rw (le-leb n 4294967295 (omega arith))

pub small_over : (n : ℕ) → 4294967295 < n → ◌≡◌ {A = Option ℕ} None (cond (leb n 4294967295) (Some n) None)
small_over n h = rw (lt-leb n 4294967295 h)

module _ (t : List ℕ) where
  pub conn_empty : length t < 1 → conn_item t ≡ None
  unfolding conn_item is_decimal
  conn_empty h = rw (lt-leb 1 (length t) h)

  pub conn_other : 1 ≤ length t → all_digits 10 t ≡ false → conn_item t ≡ None
  unfolding conn_item is_decimal
  conn_other h d = rw (le-leb 1 (length t) h, d)

  pub conn_leads : 1 ≤ length t → all_digits 10 t ≡ true → leads_zero t ≡ true → conn_item t ≡ None
  unfolding conn_item is_decimal
  conn_leads h d z = rw (le-leb 1 (length t) h, d, z)

  pub conn_digits : 1 ≤ length t → all_digits 10 t ≡ true → leads_zero t ≡ false → (r : Option ℕ) → r ≡ cond (leb (value t) 4294967295) (Some (value t)) None
      → conn_item t ≡ option_map Conn r
  unfolding conn_item is_decimal
  conn_digits h d z r e = rw (le-leb 1 (length t) h, d, z, e) (by (leb (value t) 4294967295)) where
    by : (b : Bool) → cond b (Some (Conn (value t))) None ≡ option_map Conn (cond b (Some (value t)) None)
    by true = refl
    by false = refl

-- ---- keys

pub starts_short : (key l : List ℕ) → length l < length key → starts_with key l ≡ false
unfolding starts_with
starts_short key l h = same_length_ne (take (length key) l) key (λ e. omega (arith, simp length-take at e))

pub starts_fits : (key l : List ℕ) → starts_with key l ≡ true → length key ≤ length l
unfolding starts_with
starts_fits key l e = omega (arith, simp length-take at (ap length ((same_decides (take (length key) l) key).0 e)))

-- std's test of what a line starts with is the same
pub starts_std : (key l : List ℕ) → pointwise eqb (take (length key) l) key ≡ starts_with key l
unfolding starts_with
starts_std key l = same_std (take (length key) l) key

-- and so is its test of the one line without a value
pub op_std : (l op : List ℕ) (r : Bool) → r ≡ pointwise eqb l op → op ≡ op_req → same_bytes l op_req ≡ r
op_std l op r e f = sym (e ∙ ap (pointwise eqb l) f ∙ same_std l op_req)

-- ---- lines, by the cases that code makes

module _ (l : List ℕ) where
  pub item_long : 800 < length l → item_of l ≡ None
  unfolding item_of
  item_long h = rw (lt-ltb 800 (length l) h)

  pub item_op : length l ≤ 800 → same_bytes l op_req ≡ true → item_of l ≡ Some Op
  unfolding item_of
  item_op h o = rw (le-ltb 800 (length l) h, o)

  pub item_conn : length l ≤ 800 → same_bytes l op_req ≡ false → starts_with conn_key l ≡ true → item_of l ≡ conn_item (drop 5 l)
  unfolding item_of
  item_conn h o k = rw (le-ltb 800 (length l) h, o, k)

  pub item_hex : length l ≤ 800 → same_bytes l op_req ≡ false → starts_with conn_key l ≡ false → starts_with hex_key l ≡ true → item_of l ≡ hex_item (drop 4 l)
  unfolding item_of
  item_hex h o k x = rw (le-ltb 800 (length l) h, o, k, x)

  pub item_other : length l ≤ 800 → same_bytes l op_req ≡ false → starts_with conn_key l ≡ false → starts_with hex_key l ≡ false → item_of l ≡ None
  unfolding item_of
  item_other h o k x = rw (le-ltb 800 (length l) h, o, k, x)

-- ---- where a line ends

-- std's position of the newline is the same
pub up_std : (xs : List ℕ) → position_or_len (λ c. eqb c 10) xs ≡ length (up_to xs)
unfolding up_to
up_std [] = refl
up_std (c ∷ cs) = by (up_std cs) (eqb c 10) where
  by : position_or_len (λ x. eqb x 10) cs ≡ length (up_to cs) → (t : Bool) → cond (not t) (1 + position_or_len (λ x. eqb x 10) cs) 0 ≡ length (cond t [] (c ∷ up_to cs))
  by h true = refl
  by h false = omega (arith, h)

-- what is left from index i on
module _ (t : List ℕ) (i : ℕ) (h : i < length t) where
  up_step : up_to (drop i t) ≡ cond (eqb (get_or t i 0) 10) [] (get_or t i 0 ∷ up_to (drop (i + 1) t))
  unfolding up_to
  up_step = rw (add-one i, drop-cons t i 0)

  pub up_go : (get_or t i 0 ≡ 10 → ⊥) → length (up_to (drop i t)) ≡ suc (length (up_to (drop (i + 1) t)))
  up_go k =
      let e : cond (eqb (get_or t i 0) 10) [] (get_or t i 0 ∷ up_to (drop (i + 1) t)) ≡ get_or t i 0 ∷ up_to (drop (i + 1) t) = rw (ne_eqb _ _ k) in
      ap length (up_step ∙ e)

  pub up_stop : get_or t i 0 ≡ 10 → length (up_to (drop i t)) ≡ 0
  up_stop k =
      let e : cond (eqb (get_or t i 0) 10) [] (get_or t i 0 ∷ up_to (drop (i + 1) t)) ≡ [] = rw (eq-eqb _ _ k) in
      ap length (up_step ∙ e)

pub up_end : (t : List ℕ) (i : ℕ) → length t ≤ i → length (up_to (drop i t)) ≡ 0
unfolding up_to
up_end t i h = rw (drop_of_length-le t h)

pub up_within : (xs : List ℕ) → length (up_to xs) ≤ length xs
unfolding up_to
up_within [] = omega arith
up_within (c ∷ cs) = by (up_within cs) (eqb c 10) where
  by : length (up_to cs) ≤ length cs → (t : Bool) → length (cond t [] (c ∷ up_to cs)) ≤ length (c ∷ cs)
  by h true = omega arith
  by h false = omega arith
