-- Two lines side by side that fit into one name: there is another reading, however plain the names are. Assumes nothing.
use Prim.Native.Nat.{ℕ, suc, ◌+◌, ◌≤◌, ◌<◌}
use mathlib.Core.Path.{◌≡◌, refl, sym, ap, ◌∙◌, subst}
use mathlib.Core.Bool.{true}
use mathlib.Core.List.{List, [], ◌∷◌, ◌++◌, append_assoc}
use native.Mathlib.Omega.{arith}
use lib.ListN.{length, get_or, length-append}
use borrow.Author.Tests.{le-leb, ne_eqb}
use Rattle.wire.specs.Number.{be}
use Rattle.wire.specs.Decimal.{decimal}
use Rattle.wire.specs.Table.{table_bytes, Each}
use Rattle.wire.proofs.DecimalLaws.{decimal_text}
use Rattle.wire.proofs.TableLaws.{bytes_append, each_append, each_parts}
use Rattle.names.specs.Node.{plain, node_text}
use Rattle.names.proofs.NodeLaws.{plain_text, name_some, name_text, name_of, text_join}
use Rattle.epmd_rules.specs.Replies.{name_word, port_word, line_with}
use Rattle.epmd_rules.proofs.ReplyLaws.{line_length}
use Rattle.epmd_client_rules.specs.Readings.{Line, line_text, lines_text, Allowed, Reading}
use Rattle.epmd_client_rules.specs.ReadingClaims.{PairAmbiguous}

-- digits are plain text
digits_plain : (ds : List ℕ) → ((i : ℕ) → i < length ds → (48 ≤ get_or ds i 0) × (get_or ds i 0 ≤ 57)) → plain ds ≡ true
unfolding plain
digits_plain [] f = refl
digits_plain (d ∷ ds) f =
    let h = f 0 (omega arith) in
    rw (ne_eqb d 0 (omega (arith, h)), ne_eqb d 64 (omega (arith, h)), le-leb d 127 (omega (arith, h))) (digits_plain ds (λ i k. f (suc i) (omega arith)))

-- the bytes between the two names
abbrev between : Line → List ℕ
between x = port_word ++ (decimal x.port ++ (10 ∷ name_word))

between_text : (x : Line) → x.port ≤ 65535 → node_text (between x) ≡ true
unfolding plain
between_text x h =
    text_join port_word (decimal x.port ++ (10 ∷ name_word)) (plain_text port_word refl)
    (text_join (decimal x.port) (10 ∷ name_word)
    (plain_text (decimal x.port) (digits_plain (decimal x.port) (decimal_text x.port (omega arith)).digit)) (plain_text (10 ∷ name_word) refl))

-- one line in place of both
abbrev merged : Line → Line → Line
merged x y = record { name = x.name ++ (between x ++ y.name); port = y.port }

regroup : (n d m t r : List ℕ)
    → ((n ++ ((port_word ++ (d ++ (10 ∷ name_word))) ++ m)) ++ t) ++ r ≡ (n ++ (port_word ++ (d ++ (10 ∷ [])))) ++ ((name_word ++ (m ++ t)) ++ r)
regroup n d m t r = simp append_assoc

module _ (x y : Line) (a : Allowed x) (b : Allowed y) (h : length (line_text x) + length y.name ≤ 255) where
  merged_length : length (x.name ++ (between x ++ y.name)) ≡ length (line_text x) + length y.name
  merged_length =
      omega (
        arith,
        length-append x.name (between x ++ y.name),
        length-append (between x) y.name,
        length-append (decimal x.port) (10 ∷ name_word),
        line_length x.name x.port,
      )

  merged_allowed : Allowed (merged x y)
  merged_allowed =
      record {
        name =
            name_of (x.name ++ (between x ++ y.name)) (omega (arith, merged_length, name_some y.name b.name)) (omega (arith, merged_length))
            (text_join x.name (between x ++ y.name) (name_text x.name a.name)
            (text_join (between x) y.name (between_text x a.port) (name_text y.name b.name)));
        port = b.port;
      }

  merged_text : (r : List ℕ) → line_text (merged x y) ++ r ≡ line_text x ++ (line_text y ++ r)
  unfolding line_with
  merged_text r = ap (λ (l : List ℕ). name_word ++ l) (regroup x.name (decimal x.port) y.name (port_word ++ (decimal y.port ++ (10 ∷ []))) r)

pub pair_ambiguous : PairAmbiguous
unfolding table_bytes Each
pair_ambiguous b m before x y after r e h =
    let all : Each Allowed before × Each Allowed (x ∷ y ∷ after) = each_parts Allowed before (x ∷ y ∷ after) (subst (Each Allowed) e r.lines) in
    let ax : Allowed x = all.1.0 in
    let ay : Allowed y = all.1.1.0 in
    let xs : List Line = before ++ (merged x y ∷ after) in
    let text : lines_text xs ≡ lines_text m.lines =
    bytes_append line_text before (merged x y ∷ after)
    ∙ ap (λ (t : List ℕ). lines_text before ++ t) (merged_text x y ax ay h (lines_text after))
    ∙ sym (bytes_append line_text before (x ∷ y ∷ after))
    ∙ ap lines_text (sym e)
    in
    let n : length m.lines ≡ length xs + 1 = ap length e ∙ omega (arith, length-append before (x ∷ y ∷ after), length-append before (merged x y ∷ after)) in (
      record { own = m.own; lines = xs },
      record {
        text = ap (λ (t : List ℕ). be 4 m.own ++ t) text ∙ r.text;
        own = r.own;
        lines = each_append Allowed before (merged x y ∷ after) all.0 (merged_allowed x y ax ay h, all.1.1.1);
        few = omega (arith, n, r.few);
      },
      λ q. omega (arith, n, ap (λ (k : Reading). length k.lines) q),
    )
