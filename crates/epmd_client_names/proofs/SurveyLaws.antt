-- The readings from a place on whose first name has n bytes, by what the scan finds; and the turns of the loops. Assumes nothing.
use Prim.Native.Nat.{ℕ, ◌+◌, ◌*◌, ◌≤◌, ◌<◌}
use mathlib.Core.Path.{◌≡◌, refl, sym, ap, ◌∙◌, subst}
use mathlib.Core.Logic.{⊎_elim, inl, inr}
use mathlib.Core.Bool.{Bool, true, false}
use mathlib.Core.List.{List, [], ◌∷◌, ◌++◌, append_assoc}
use native.Mathlib.Omega.{arith}
use lib.ListN.{length, take, drop, get_or, set, length-append, length-set, take-append-drop}
use lib.Seq.{take_at, drop-drop, get_or-set_same, get_or-set_other, drop-length}
use lib.Dec.{ltb, eqb}
use Rattle.std.specs.Prelude.{None}
use borrow.Author.Tests.{ltb-true, ltb-false, eqb-true, eqb-false}
use Rattle.wire.specs.Run.{part}
use Rattle.wire.specs.Table.{table_bytes, Each}
use Rattle.wire.proofs.RunLaws.{part_length}
use Rattle.names.specs.Node.{node_name}
use Rattle.names.proofs.NodeLaws.{name_some, name_short}
use Rattle.epmd_rules.specs.Requests.{line_room}
use Rattle.epmd_rules.specs.Replies.{name_word, line_with}
use Rattle.epmd_rules.proofs.ReplyLaws.{line_length, port_short}
use Rattle.epmd_client_rules.specs.Readings.{Line, line_text, lines_text, Allowed}
use Rattle.epmd_client_names.specs.declared.tally.Tally.{Tally}
use Rattle.epmd_client_names.specs.declared.tally.Tally.TheVariants as tally
use Rattle.epmd_client_names.specs.Text.{tail_text, has_at, space_at, found, tail_at}
use Rattle.epmd_client_names.specs.Tallies.{Set, Means, join_of, longer_of}
use Rattle.epmd_client_names.specs.Survey.{Lines, Exact, Below, Rows, Room}
use Rattle.epmd_client_names.proofs.TextLaws.{has_true, has_of, tail_none, port_of, next_of, not_found}
use Rattle.epmd_client_names.proofs.PortLaws.{TailHere, tail_length, tail_complete, tail_sound}
use Rattle.epmd_client_names.proofs.TallyLaws.{same, Or, joined, later}
use Rattle.epmd_client_names.proofs.LineLaws.{Stands, uncons, cons, line_long, tail_space, behind_word, at_tail, word, beyond, ended}

-- ---- a first line whose name has n bytes

module _ (s : List ℕ) (p n : ℕ) (inside : p ≤ length s) where
  pub record First (x : Line) (xs : List Line) : Type 0 where
    pub next : ℕ
    pub stands : Stands s p x next
    pub rest : Lines (drop next s) xs
    pub tail : tail_at s (p + 5 + n) ≡ found x.port next
    pub name : x.name ≡ part (p + 5) n s

  pub first : (x : Line) (xs : List Line) → Exact s p n (x ∷ xs) → First x xs
  unfolding part
  first x xs e =
      let u : (q : ℕ) × Stands s p x q × Lines (drop q s) xs = uncons s p x xs inside e.0 in
      let l : length x.name ≡ n = e.1 in
      let q : p + 5 + length x.name + length (tail_text x.port) ≡ u.0 = omega (arith, u.1.next, line_long x) in
      record {
        next = u.0;
        stands = u.1;
        rest = u.2;
        tail =
            ap (λ (k : ℕ). tail_at s (p + 5 + k)) (sym l)
            ∙ tail_complete s (p + 5 + length x.name) x.port (drop u.0 s) (at_tail s p x u.0 u.1) u.1.allowed.port
            ∙ ap (λ (k : ℕ). found x.port k) q;
        name = sym (take_at x.name (tail_text x.port ++ drop u.0 s) n l) ∙ ap (take n) (sym (behind_word s p x u.0 u.1));
      }

  pub none_short : length s ≤ p + 5 + n → (xs : List Line) → Exact s p n xs → ⊥
  none_short h [] e = e.1
  none_short h (x ∷ xs) e =
      let f : First x xs = first x xs e in
      omega (arith, f.stands.next, f.stands.inside, line_long x, tail_length x.port, e.1)

  pub none_tail : tail_at s (p + 5 + n) ≡ None → (xs : List Line) → Exact s p n xs → ⊥
  none_tail h [] e = e.1
  none_tail h (x ∷ xs) e =
      not_found (record { port = x.port; next = (first x xs e).next }) (sym h ∙ (first x xs e).tail)

  pub none_named : node_name (part (p + 5) n s) ≡ false → (xs : List Line) → Exact s p n xs → ⊥
  none_named h [] e = e.1
  none_named h (x ∷ xs) e =
      let f : First x xs = first x xs e in
      let a : node_name x.name ≡ true = f.stands.allowed.name in
      let b : node_name x.name ≡ false = ap node_name f.name ∙ h in
      let z : ◌≡◌ {A = ℕ} 0 1 = cc in omega arith

  module _ (port next : ℕ) (has : has_at s p name_word ≡ true) (t : tail_at s (p + 5 + n) ≡ found port next) (named : node_name (part (p + 5) n s) ≡ true) where
    here : TailHere s (p + 5 + n) port next
    here = tail_sound s (p + 5 + n) port next t

    abbrev line : Line
    line = record { name = part (p + 5) n s; port = port }

    name_long : length (part (p + 5) n s) ≡ n
    name_long = part_length (p + 5) n s (omega (arith, here.inside, here.behind, tail_length port))

    line_stands : Stands s p line next
    unfolding line_with tail_text part
    line_stands =
        record {
          here =
              has_true s p name_word has
              ∙ ap (λ (l : List ℕ). name_word ++ l)
              (sym (take-append-drop n (drop (p + 5) s))
              ∙ ap (λ (l : List ℕ). take n (drop (p + 5) s) ++ l) (drop-drop n (p + 5) s ∙ here.here)
              ∙ sym (append_assoc (take n (drop (p + 5) s)) (tail_text port) (drop next s)));
          next = omega (arith, here.behind, line_long line, name_long);
          inside = here.inside;
          allowed = record { name = named; port = here.small };
        }

    Behind : Set
    Behind x = (y : List Line) × Lines (drop next s) y × (x ≡ line ∷ y)

    to : (x : List Line) → Behind x → Exact s p n x
    unfolding Behind
    to x b = subst (Exact s p n) (sym b.2) (cons s p line next b.0 line_stands b.1, name_long)

    from : (x : List Line) → Exact s p n x → Behind x
    unfolding Behind
    from [] e = absurd e.1
    from (x ∷ xs) e =
        let f : First x xs = first x xs e in
        let g : found x.port f.next ≡ found port next = sym f.tail ∙ t in
        let pe : x.port ≡ port = ap port_of g in
        let ne : f.next ≡ next = ap next_of g in
        let nm : x.name ≡ part (p + 5) n s = f.name in
        let le : x ≡ line = λ i. record { name = nm i; port = pe i } in
        (xs, subst (λ (k : ℕ). Lines (drop k s) xs) ne f.rest, ap (λ (h : Line). h ∷ xs) le)

    pub one_more : (t : Tally) → Means (Lines (drop next s)) t → Means (Exact s p n) (longer_of t)
    unfolding Behind
    one_more t m = same Behind (Exact s p n) to from (longer_of t) (later (Lines (drop next s)) line t m)

pub ruleset through_laws = (none_short, none_tail, none_named)

-- ---- the loop over the length of the name

module _ (s : List ℕ) (p : ℕ) where
  pub below_one : (xs : List Line) → Below s p 1 xs → ⊥
  unfolding Each
  below_one [] e = e.1
  below_one (x ∷ xs) e = omega (arith, e.1, name_some x.name e.0.1.0.name)

  apart : (n : ℕ) (xs : List Line) → Below s p n xs → Exact s p n xs → ⊥
  apart n [] e f = e.1
  apart n (x ∷ xs) e f = omega (arith, e.1, f.1)

  below_next : (n : ℕ) (xs : List Line) → Or (Below s p n) (Exact s p n) xs → Below s p (n + 1) xs
  below_next n [] o = ⊎_elim (λ e. absurd e.1) (λ e. absurd e.1) o
  below_next n (x ∷ xs) o = ⊎_elim (λ e. (e.0, omega (arith, e.1))) (λ e. (e.0, omega (arith, e.1))) o

  pub below_split : (n : ℕ) (xs : List Line) → Below s p (n + 1) xs → Or (Below s p n) (Exact s p n) xs
  below_split n [] e = absurd e.1
  below_split n (x ∷ xs) e = by (ltb (length x.name) n) refl where
    by : (t : Bool) → ltb (length x.name) n ≡ t → Or (Below s p n) (Exact s p n) (x ∷ xs)
    by true h = inl (e.0, ltb-true (length x.name) n h)
    by false h = inr (e.0, omega (arith, ltb-false (length x.name) n h, e.1))

  pub turn : (n : ℕ) (a b : Tally) → Means (Below s p n) a → Means (Exact s p n) b → Means (Below s p (n + 1)) (join_of a b)
  turn n a b m w =
      same (Or (Below s p n) (Exact s p n)) (Below s p (n + 1)) (below_next n) (below_split n) (join_of a b)
      (joined (Below s p n) (Exact s p n) a b m w (apart n))

  below_more : (n : ℕ) (xs : List Line) → Below s p n xs → Below s p (n + 1) xs
  below_more n [] e = absurd e.1
  below_more n (x ∷ xs) e = (e.0, omega (arith, e.1))

  -- no name ends where no space follows it
  pub skip : (n : ℕ) → p ≤ length s → space_at s (p + 5 + n) ≡ false → (xs : List Line) → Below s p (n + 1) xs → Below s p n xs
  unfolding space_at
  skip n h f [] e = absurd e.1
  skip n h f (x ∷ xs) e = by (ltb (length x.name) n) refl where
    by : (t : Bool) → ltb (length x.name) n ≡ t → Below s p n (x ∷ xs)
    by true g = (e.0, ltb-true (length x.name) n g)
    by false g =
        let u : (q : ℕ) × Stands s p x q × Lines (drop q s) xs = uncons s p x xs h e.0 in
        let l : length x.name ≡ n = omega (arith, ltb-false (length x.name) n g, e.1) in
        absurd
        (eqb-false (get_or s (p + 5 + n) 0) 32 f
        (ap (λ (k : ℕ). get_or s (p + 5 + k) 0) (sym l) ∙ tail_space s (p + 5 + length x.name) x.port (drop u.0 s) (at_tail s p x u.0 u.1)))

  pub skipped : (n : ℕ) → p ≤ length s → space_at s (p + 5 + n) ≡ false → (t : Tally) → Means (Below s p n) t → Means (Below s p (n + 1)) t
  skipped n h f t m = same (Below s p n) (Below s p (n + 1)) (below_more n) (skip n h f) t m

  -- nor where no a is behind the space
  pub skip_tail : (n : ℕ) → p ≤ length s → eqb (get_or s (p + 5 + n + 1) 0) 97 ≡ false → (xs : List Line) → Below s p (n + 1) xs → Below s p n xs
  skip_tail n h f xs e = ⊎_elim (λ b. b) (λ x. absurd (none_tail s p n h (tail_none s (p + 5 + n) f) xs x)) (below_split n xs e)

  pub skipped_tail : (n : ℕ) → p ≤ length s → eqb (get_or s (p + 5 + n + 1) 0) 97 ≡ false → (t : Tally) → Means (Below s p n) t → Means (Below s p (n + 1)) t
  skipped_tail n h f t m = same (Below s p n) (Below s p (n + 1)) (below_more n) (skip_tail n h f) t m

  -- none is longer than 255 bytes, or goes on behind the text's end
  pub all_within : (n : ℕ) → p < length s → (n < 256 → length s ≤ p + 5 + n) → (xs : List Line) → Lines (drop p s) xs → Below s p n xs
  unfolding Each
  all_within n h f [] r = absurd (omega (arith, ended s p r))
  all_within n h f (x ∷ xs) r = by (ltb n 256) refl where
    u : (q : ℕ) × Stands s p x q × Lines (drop q s) xs
    u = uncons s p x xs (omega arith) r

    by : (t : Bool) → ltb n 256 ≡ t → Below s p n (x ∷ xs)
    by true g = (r, omega (arith, f (ltb-true n 256 g), u.1.next, u.1.inside, line_long x, tail_length x.port))
    by false g = (r, omega (arith, ltb-false n 256 g, name_short x.name r.1.0.name))

  pub turns_within : (n : ℕ) → p < length s → (n < 256 → length s ≤ p + 5 + n) → (t : Tally) → Means (Below s p n) t → Means (Lines (drop p s)) t
  turns_within n h f t m = same (Below s p n) (Lines (drop p s)) (λ x b. b.0) (all_within n h f) t m

  pub all_below : p < length s → (xs : List Line) → Lines (drop p s) xs → Below s p 256 xs
  all_below h xs r = all_within 256 h (λ f. absurd (omega arith)) xs r

  pub all_turns : p < length s → (t : Tally) → Means (Below s p 256) t → Means (Lines (drop p s)) t
  all_turns h t m = turns_within 256 h (λ f. absurd (omega arith)) t m

  pub no_word : p < length s → has_at s p name_word ≡ false → (xs : List Line) → Lines (drop p s) xs → ⊥
  no_word h f [] r = omega (arith, ended s p r)
  no_word h f (x ∷ xs) r =
      let u : (q : ℕ) × Stands s p x q × Lines (drop q s) xs = uncons s p x xs (omega arith) r in
      let g : has_at s p name_word ≡ true = has_of s p name_word (drop (p + 5) s) (word s p x u.0 u.1) in
      let z : ◌≡◌ {A = ℕ} 0 1 = cc in omega arith

-- ---- the table

pub at_end : (s : List ℕ) → Means (Lines (drop (length s) s)) (tally.One 0)
unfolding table_bytes Each
at_end s = (([], (sym (drop-length s), tt), refl, only), omega arith) where
  only : (y : List Line) → Lines (drop (length s) s) y → y ≡ []
  only [] r = refl
  only (x ∷ xs) r =
      let u : (q : ℕ) × Stands s (length s) x q × Lines (drop q s) xs = uncons s (length s) x xs (omega arith) r in
      absurd (omega (arith, beyond s (length s) x u.0 u.1, u.1.inside))

module _ (s : List ℕ) (p : ℕ) (tallies : List Tally) (t : Tally) where
  pub room_set : Room s tallies → Room s (set tallies p t)
  room_set r = record { fits = r.fits; long = omega (arith, r.long, length-set tallies p t) }

  pub rows_set : p < length tallies → Rows s (p + 1) tallies → Means (Lines (drop p s)) t → Rows s p (set tallies p t)
  rows_set h r m j pj js = by (eqb j p) refl where
    by : (u : Bool) → eqb j p ≡ u → Means (Lines (drop j s)) (get_or (set tallies p t) j tally.Nothing)
    by true e =
        subst (λ (i : ℕ). Means (Lines (drop i s)) (get_or (set tallies p t) i tally.Nothing)) (sym (eqb-true j p e))
        (rw (get_or-set_same tallies p t tally.Nothing h) m)
    by false e = rw (get_or-set_other tallies p j t tally.Nothing (eqb-false j p e)) (r j (omega (arith, eqb-false j p e)) js)

pub ruleset table_laws = (at_end, room_set, rows_set)

-- ---- how long the text of some lines is

pub lines_short : (xs : List Line) → Each Allowed xs → length (lines_text xs) ≤ line_room * length xs
unfolding table_bytes Each
lines_short [] a = omega arith
lines_short (x ∷ xs) a =
    omega (
      arith,
      length-append (line_text x) (lines_text xs),
      line_length x.name x.port,
      port_short x.port (omega (arith, a.0.port)),
      name_short x.name a.0.name,
      lines_short xs a.1,
    )
