-- Laws of a registry that lies in bytes: a registration is read where it lies, and overwriting it changes it alone. Assumes nothing.
use Prim.Native.Nat.{ℕ, zero, suc, ◌+◌, ◌-◌, ◌*◌, ◌^◌, ◌≤◌, ◌<◌}
use mathlib.Core.Path.{◌≡◌, refl, sym, ◌∙◌, ap, ap₂}
use mathlib.Core.Bool.{Bool, true, false, cond, ◌&&◌, not, and-false}
use mathlib.Core.List.{List, [], ◌∷◌, ◌++◌, append-nil, append_assoc}
use native.Mathlib.Omega.{arith}
use borrow.Author.Tests.{eq-eqb, ne_eqb, eqb-false, lt-ltb, le-ltb}
use lib.Dec.{eqb, ltb}
use lib.ListN.{length, length-append, length-drop, get_or, set, take, drop, replicate}
use lib.Seq.{length-take-le, take_all, drop-drop, get_or-take}
use Rattle.std.specs.Prelude.{Some, None, map}
use Rattle.std.specs.List.{position, position_or_len}
use Rattle.std.specs.Simd.{first_chunks}
use Rattle.std.proofs.lemmas.List.{get_or-map, get_or_past}
use Rattle.std.proofs.lemmas.Grind.{get_or_after_one}
use Rattle.wire.specs.Run.{part, same_bytes}
use Rattle.wire.specs.Number.{be, num, be_at}
use Rattle.wire.specs.Output.{overwrite}
use Rattle.wire.specs.Table.{table}
use Rattle.wire.specs.Lookup.{first_at}
use Rattle.wire.specs.Layout.{Value, int, encode, decode, int_of, Fits}
use Rattle.wire.proofs.NumberLaws.{be_length, be_at_byte}
use Rattle.wire.proofs.LayoutLaws.{layout_back, be_at_behind}
use Rattle.wire.proofs.LookupLaws.{first_skip, first_hit, first_end, first_within}
use Rattle.wire.proofs.OutputLaws.{overwrite_join}
use Rattle.wire.proofs.TableLaws.{take_within, part_before, table_count, table_at, table_after, table_set, table_zeros}
use Rattle.wire.proofs.RunLaws.{part_length, same_length_ne, same_false}
use Rattle.names.specs.Held.{name_of, name_bytes}
use Rattle.epmd_rules.specs.State.{Registry}
use Rattle.epmd_rules.specs.declared.registration.Registration.{Registration}
use Rattle.epmd_rules.specs.Registration.{free, is_free, has_name, extra_of, extra_bytes}
use Rattle.epmd_rules.specs.Registry.{entry_at}
use Rattle.epmd_state.specs.Bytes.{head_l, tail_l, entry_l, places, head_size, entry_size, size, tail_values, entry_values, entry_bytes, entry_from, entry_by, records_in, registry_of, placed, headed, found, last_of, is_like}

abbrev entries : List ℕ → List Registration
entries b = table entry_by entry_size places head_size b

pub here_long : (b : List ℕ) → length (registry_of b).registrations ≡ places
unfolding registry_of
here_long b = table_count entry_by entry_size places head_size b

-- a registration is read where it lies
pub entry_here : (b : List ℕ) (i : ℕ) → i < places → entry_by (part (head_size + i * entry_size) entry_size b) ≡ entry_at (registry_of b) i
unfolding registry_of entry_at
entry_here b i h = sym (table_at entry_by entry_size places head_size i (head_size + i * entry_size) b free h refl)

-- what is written of a registration is read back
pub entry_back : (p : Registration) → Fits entry_l (entry_values p) → entry_by (entry_bytes p) ≡ p
unfolding entry_by
entry_back p h = ap (λ (c : List ℕ). entry_from (decode entry_l c)) (sym (append-nil (entry_bytes p))) ∙ ap entry_from (layout_back entry_l (entry_values p) [] h).fields

-- THE LAW: a record overwritten is that registration set
set_here : (b r : List ℕ) (i : ℕ) (p : Registration) → i < places → length b ≡ size → length r ≡ entry_size → entry_by r ≡ p
    → registry_of (overwrite b (head_size + i * entry_size) r) ≡ placed (registry_of b) i p
unfolding registry_of be_at
set_here b r i p h l long e =
    let a : ℕ = head_size + i * entry_size in
    let c = overwrite b a r in
    let p0 : part 0 2 c ≡ part 0 2 b = part_before 0 2 a b r (omega arith) (omega (arith, l)) in
    let p1 : part 2 4 c ≡ part 2 4 b = part_before 2 4 a b r (omega arith) (omega (arith, l)) in
    let q : entries c ≡ set (entries b) i p = table_set entry_by entry_size places head_size i a b r h refl long (omega (arith, l)) ∙ ap (set (entries b) i) e in
    λ j. record { port = num (p0 j); next = num (p1 j); registrations = q j }

pub entry_long : (p : Registration) → length p.name.bytes ≡ 255 → length p.extra.bytes ≡ 128 → length (entry_bytes p) ≡ entry_size
entry_long p h k =
    let t : List ℕ = encode tail_l (tail_values p) in
    let e : List ℕ = be 1 p.extra.len ++ (p.extra.bytes ++ t) in
    omega (arith, h, k, length-append p.name.bytes e, length-append p.extra.bytes t)

pub put_here : (b : List ℕ) (i : ℕ) (p : Registration) → i < places → length b ≡ size → Fits entry_l (entry_values p)
    → registry_of (overwrite b (head_size + i * entry_size) (entry_bytes p)) ≡ placed (registry_of b) i p
put_here b i p h l fits = set_here b (entry_bytes p) i p h l (entry_long p fits.1.0 fits.1.1.1.0) (entry_back p fits)

pub none_here : entry_by (replicate entry_size 0) ≡ free
unfolding entry_by be_at part free name_of extra_of
none_here = refl

-- past the last place there is none
pub past_here : (b : List ℕ) (i : ℕ) → places ≤ i → entry_at (registry_of b) i ≡ free
unfolding entry_at
past_here b i h = get_or_past (registry_of b).registrations i free (omega (arith, here_long b))

pub clear_here : (b : List ℕ) (i : ℕ) → i < places → length b ≡ size → registry_of (overwrite b (head_size + i * entry_size) (replicate entry_size 0)) ≡ placed (registry_of b) i free
clear_here b i h l = set_here b (replicate entry_size 0) i free h l refl none_here

-- all zero: every place is free
pub none_there : (b : List ℕ) → b ≡ replicate size 0 → (registry_of b).registrations ≡ replicate places free
unfolding registry_of
none_there b e = ap entries e ∙ table_zeros entry_by entry_size free none_here places head_size size (omega arith)

-- ---- as the code writes

-- three parts side by side
pub entry_split : (p : Registration)
    → ((be 1 p.name.len ++ p.name.bytes) ++ (be 1 p.extra.len ++ p.extra.bytes)) ++ encode tail_l (tail_values p) ≡ entry_bytes p
entry_split p =
    ap (λ (l : List ℕ). be 1 p.name.len ++ l) (append_assoc p.name.bytes (be 1 p.extra.len ++ p.extra.bytes) (encode tail_l (tail_values p)))

-- ---- port and next creation

abbrev pub head_from : List Value → List Registration → Registry
head_from vs l = record { port = int_of (get_or vs 0 (int 0)); next = int_of (get_or vs 1 (int 0)); registrations = l }

pub head_here : (b : List ℕ) (p n : ℕ) → length b ≡ size → p < 256 ^ 2 → n < 256 ^ 4 → registry_of (overwrite b 0 (be 2 p ++ be 4 n)) ≡ headed p n (registry_of b)
unfolding registry_of overwrite
head_here b p n l h k =
    let e : List ℕ = encode head_l (int p ∷ int n ∷ []) in
    ap₂ head_from (layout_back head_l (int p ∷ int n ∷ []) (drop (0 + length e) b) (h, (k, tt))).fields
    (table_after entry_by entry_size places head_size 0 b e (omega arith) (omega (arith, l)))

port_kept : (b : List ℕ) (n : ℕ) → length b ≡ size → be_at 2 0 (overwrite b 2 (be 4 n)) ≡ be_at 2 0 b
unfolding be_at
port_kept b n l = ap num (part_before 0 2 2 b (be 4 n) (omega arith) (omega (arith, l)))

next_there : (b : List ℕ) (n : ℕ) → length b ≡ size → n < 256 ^ 4 → be_at 4 2 (overwrite b 2 (be 4 n)) ≡ n
unfolding overwrite
next_there b n l h = be_at_behind (take 2 b) (drop (2 + length (be 4 n)) b) 2 4 n (length-take-le 2 b (omega (arith, l))) h

-- the next creation overwritten
pub next_here : (b : List ℕ) (n : ℕ) → length b ≡ size → n < 256 ^ 4 → registry_of (overwrite b 2 (be 4 n)) ≡ headed (registry_of b).port n (registry_of b)
unfolding registry_of
next_here b n l h =
    let p0 : be_at 2 0 (overwrite b 2 (be 4 n)) ≡ be_at 2 0 b = port_kept b n l in
    let p1 : be_at 4 2 (overwrite b 2 (be 4 n)) ≡ n = next_there b n l h in
    let q : entries (overwrite b 2 (be 4 n)) ≡ entries b =
    table_after entry_by entry_size places head_size 2 b (be 4 n) (omega (arith, be_length 4 n)) (omega (arith, l, be_length 4 n)) in
    λ j. record { port = p0 j; next = p1 j; registrations = q j }

-- ---- the texts of a record

text_here : (o m n : ℕ) (b : List ℕ) → n ≤ m → take n (part o m b) ≡ part o n b
unfolding part
text_here o m n b h = sym (take_within n m (drop o b) h)

pub name_here : (b : List ℕ) (n : ℕ) → n ≡ be_at 1 0 b → n ≤ 255 → name_bytes (entry_by b).name ≡ part 1 n b
unfolding entry_by name_bytes
name_here b n e h = ap (λ (k : ℕ). take k (part 1 255 b)) (sym e) ∙ text_here 1 255 n b h

none_last : (b : List ℕ) → last_of (part 1 0 b) ≡ 0
unfolding part
none_last b = refl

part_last : (b : List ℕ) (n : ℕ) → get_or (part 1 (suc n) b) (suc n - 1) 0 ≡ get_or b (suc n) 0
unfolding part
part_last b n =
    let k : suc n - 1 ≡ n = omega arith in
    let m : 1 + n ≡ suc n = omega arith in
    ap (λ (j : ℕ). get_or (take (suc n) (drop 1 b)) j 0) k ∙ get_or-take (suc n) (drop 1 b) n 0 (omega arith)
    ∙ get_or_after_one b n 0 ∙ ap (λ (j : ℕ). get_or b j 0) m

pub extra_here : (b : List ℕ) (n : ℕ) → n ≡ be_at 1 256 b → n ≤ 128 → extra_bytes (entry_by b).extra ≡ part 257 n b
unfolding entry_by extra_bytes
extra_here b n e h = ap (λ (k : ℕ). take k (part 257 128 b)) (sym e) ∙ text_here 257 128 n b h

-- a length above 128 counts all
pub extra_whole : (b : List ℕ) (n : ℕ) → n ≡ be_at 1 256 b → 128 ≤ n → length b ≡ entry_size → extra_bytes (entry_by b).extra ≡ part 257 128 b
unfolding entry_by extra_bytes
extra_whole b n e h l =
    ap (λ (k : ℕ). take k (part 257 128 b)) (sym e) ∙ take_all n (part 257 128 b) (omega (arith, h, part_length 257 128 b (omega (arith, l))))

-- ---- whose registration it is

module _ (name : List ℕ) (p : Registration) where
  pub other_length : (length (name_bytes p.name) ≡ length name → ⊥) → false ≡ has_name name p
  unfolding has_name
  other_length h = sym (ap (λ (t : Bool). not (is_free p) && t) (same_length_ne (name_bytes p.name) name h) ∙ and-false (not (is_free p)))

  pub other_last : (last_of (name_bytes p.name) ≡ last_of name → ⊥) → false ≡ has_name name p
  unfolding has_name
  other_last h =
      sym (ap (λ (t : Bool). not (is_free p) && t) (same_false (name_bytes p.name) name (λ e. h (ap last_of e))) ∙ and-false (not (is_free p)))

  pub none_held : length (name_bytes p.name) ≡ 0 → false ≡ has_name name p
  unfolding has_name is_free
  none_held h = rw (eq-eqb (length (name_bytes p.name)) 0 h)

  pub by_bytes : (length (name_bytes p.name) ≡ 0 → ⊥) → same_bytes (name_bytes p.name) name ≡ has_name name p
  unfolding has_name is_free
  by_bytes h = rw (ne_eqb (length (name_bytes p.name)) 0 h)

-- ---- look-up over the records, by any test

-- a table is its records, each read
chunks_read : (n w o : ℕ) (b : List ℕ) → map entry_by (first_chunks w n (drop o b)) ≡ table entry_by w n o b
unfolding table part
chunks_read zero w o b = refl
chunks_read (suc n) w o b =
    ap (λ (l : List Registration). entry_by (take w (drop o b)) ∷ l)
    (ap (λ (x : List ℕ). map entry_by (first_chunks w n x)) (drop-drop w o b) ∙ chunks_read n w (o + w) b)

records_here : (b : List ℕ) → map entry_by (records_in b) ≡ (registry_of b).registrations
unfolding registry_of
records_here b = chunks_read places entry_size head_size b

pub record_here : (b : List ℕ) (i : ℕ) → i < length (records_in b) → entry_by (get_or (records_in b) i []) ≡ entry_at (registry_of b) i
unfolding entry_at
record_here b i h = sym (get_or-map entry_by (records_in b) i [] free h) ∙ ap (λ (l : List Registration). get_or l i free) (records_here b)

first_read : (p : Registration → Bool) (rs : List (List ℕ)) → position_or_len (λ (r : List ℕ). p (entry_by r)) rs ≡ first_at p (map entry_by rs)
unfolding first_at
first_read p [] = refl
first_read p (r ∷ rs) = by (first_read p rs) (p (entry_by r)) where
  by : {x y : ℕ} → x ≡ y → (t : Bool) → cond (not t) (1 + x) 0 ≡ cond t 0 (suc y)
  by e true = refl
  by e false = omega (arith, e)

pub found_first : (p : Registration → Bool) (b : List ℕ) (rs : List (List ℕ)) → rs ≡ records_in b → length rs ≡ places
    → position (λ (r : List ℕ). p (entry_by r)) rs ≡ found (first_at p (registry_of b).registrations)
found_first p b rs e l =
    let f : position_or_len (λ (r : List ℕ). p (entry_by r)) rs ≡ first_at p (registry_of b).registrations =
    first_read p rs ∙ ap (λ (x : List (List ℕ)). first_at p (map entry_by x)) e ∙ ap (first_at p) (records_here b) in
    ap₂ (λ (i n : ℕ). cond (ltb i n) (Some i) None) f l

-- ---- a place that was found, and none

pub some_found : (n at : ℕ) → n ≡ at → at < places → Some at ≡ found n
some_found n at e h = rw (e, lt-ltb at places h) refl

pub none_found : (n : ℕ) → places ≤ n → None ≡ found n
none_found n h = rw (le-ltb n places h) refl

-- ---- look-up by name, place by place: what is known before place i, over any test; t is what is sought

abbrev left : (b : List ℕ) (i : ℕ) → List Registration
left b i = drop i (registry_of b).registrations

pub record Sought (p : Registration → Bool) (b : List ℕ) (t i : ℕ) : Type 0 where
  pub within : i ≤ places
  pub passed : t ≡ i + first_at p (left b i)

pub seek : (p : Registration → Bool) (b : List ℕ) (i : ℕ) → i ≤ places → Sought p b (i + first_at p (left b i)) i
seek p b i h = record { within = h; passed = refl }

pub seek_all : (p : Registration → Bool) (b : List ℕ) → Sought p b (first_at p (registry_of b).registrations) 0
seek_all p b = record { within = omega arith; passed = omega arith }

module _ (p : Registration → Bool) (b : List ℕ) (t i : ℕ) (r : List ℕ) (s : Sought p b t i) where
  module _ (h : i < places) (here : entry_by r ≡ entry_at (registry_of b) i) where
    pub hit : p (entry_by r) ≡ true → i ≡ t
    unfolding entry_at
    hit e = omega (arith, s.passed, first_hit p (registry_of b).registrations i free (omega (arith, here_long b)) (ap p (sym here) ∙ e))

    pub skip : p (entry_by r) ≡ false → Sought p b t (i + 1)
    unfolding entry_at
    skip e =
        record {
          within = omega arith;
          passed = omega (arith, s.passed, first_skip p (registry_of b).registrations i free (omega (arith, here_long b)) (ap p (sym here) ∙ e));
        }

  pub missed : places ≤ i → i ≡ t
  missed h = omega (arith, s.within, s.passed, first_end p (registry_of b).registrations i (omega (arith, here_long b)))

-- a place that is not like the name does not have it
unlike : (name : List ℕ) (p : Registration) → is_like (length name) (last_of name) p ≡ false → false ≡ has_name name p
unlike name p e = by (eqb (length (name_bytes p.name)) (length name)) refl (eqb (last_of (name_bytes p.name)) (last_of name)) refl e where
  by : (l : Bool) → eqb (length (name_bytes p.name)) (length name) ≡ l → (z : Bool) → eqb (last_of (name_bytes p.name)) (last_of name) ≡ z
      → l && z ≡ false → false ≡ has_name name p
  by false a z b f = other_length name p (eqb-false (length (name_bytes p.name)) (length name) a)
  by true a false b f = other_last name p (eqb-false (last_of (name_bytes p.name)) (last_of name) b)
  by true a true b f = let w : ◌≡◌ {A = ℕ} 0 1 = cc in absurd (omega arith)

-- so the places that are not like it are passed over
pass_unlike : (name : List ℕ) (ps : List Registration)
    → first_at (has_name name) ps ≡ first_at (is_like (length name) (last_of name)) ps + first_at (has_name name) (drop (first_at (is_like (length name) (last_of name)) ps) ps)
unfolding first_at
pass_unlike name [] = refl
pass_unlike name (p ∷ ps) = by (pass_unlike name ps) (is_like (length name) (last_of name) p) refl where
  later : ℕ
  later = first_at (is_like (length name) (last_of name)) ps

  by : first_at (has_name name) ps ≡ later + first_at (has_name name) (drop later ps) → (t : Bool) → is_like (length name) (last_of name) p ≡ t
      → cond (has_name name p) 0 (suc (first_at (has_name name) ps)) ≡ cond t 0 (suc later) + first_at (has_name name) (drop (cond t 0 (suc later)) (p ∷ ps))
  by after true e = omega arith
  by after false e = rw (sym (unlike name p e)) (omega (arith, after))

pub leap : (name b : List ℕ) (t i j last : ℕ) → last ≡ last_of name → Sought (has_name name) b t i
    → j ≡ i + first_at (is_like (length name) last) (left b i) → Sought (has_name name) b t j
leap name b t i j last z s f =
    let k = first_at (is_like (length name) (last_of name)) (left b i) in
    let e : j ≡ i + k = f ∙ ap (λ (x : ℕ). i + first_at (is_like (length name) x) (left b i)) z in
    record {
      within = omega (arith, e, s.within, first_within (is_like (length name) (last_of name)) (left b i), length-drop i (registry_of b).registrations, here_long b);
      passed = omega (arith, s.passed, e, pass_unlike name (left b i), ap (first_at (has_name name)) (drop-drop k i (registry_of b).registrations ∙ ap (left b) (sym e)));
    }

pub empty_last : (l : List ℕ) → length l ≡ 0 → last_of l ≡ 0
empty_last [] e = refl
empty_last (x ∷ l) e = absurd (omega (arith, e))

-- the last byte of a record's name is where its length says
pub last_here : (b : List ℕ) (n : ℕ) → n ≡ be_at 1 0 b → n ≤ 255 → length b ≡ entry_size → last_of (name_bytes (entry_by b).name) ≡ be_at 1 n b
last_here b zero e h l = ap last_of (name_here b zero e h) ∙ none_last b ∙ e
last_here b (suc n) e h l =
    let m = part_length 1 (suc n) b (omega (arith, l)) in
    ap last_of (name_here b (suc n) e h) ∙ ap (λ (k : ℕ). get_or (part 1 (suc n) b) (k - 1) 0) m ∙ part_last b n ∙ be_at_byte (suc n) b (omega (arith, l))

-- ---- as the numbers of a record are written, one behind the other

pub record Put (before after : List ℕ) (at : ℕ) (bytes : List ℕ) (next : ℕ) : Type 0 where
  pub is : after ≡ overwrite before at bytes
  pub there : next ≡ at + length bytes

pub then : (before after : List ℕ) (at : ℕ) (bytes : List ℕ) (next : ℕ) (more later : List ℕ) (end : ℕ) → at ≤ length before
    → Put before after at bytes next → later ≡ overwrite after next more → end ≡ next + length more → Put before later at (bytes ++ more) end
then before after at bytes next more later end room p e n =
    record {
      is = e ∙ ap (λ (l : List ℕ). overwrite l next more) p.is ∙ overwrite_join before at bytes more next room (sym p.there);
      there = omega (arith, p.there, n, length-append bytes more);
    }
