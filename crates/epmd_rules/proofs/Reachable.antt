-- Theorems of every registry that making and calls can give (specs/Claims). Assumes nothing.
use Prim.Native.Nat.{ℕ, suc, ◌-◌, ◌*◌, ◌≤◌, ◌<◌}
use mathlib.Core.Path.{◌≡◌, refl, sym, ap, subst, ◌∙◌}
use mathlib.Core.Bool.{Bool, true, false}
use mathlib.Core.List.{List, [], ◌∷◌}
use native.Mathlib.Omega.{arith}
use borrow.Author.Tests.{eq-eqb, ne_eqb, eqb-true, eqb-false, lt-ltb}
use lib.Dec.{eqb}
use lib.ListN.{length, get_or, replicate, length-set, length-replicate, get_or-replicate, length-append}
use lib.Seq.{get_or-set_same, get_or-set_other, take_at}
use Rattle.wire.specs.Claims.{Octets}
use Rattle.wire.specs.Frame.{body}
use Rattle.wire.specs.Layout.{run_at}
use Rattle.wire.proofs.NumberLaws.{octets_drop, be_at_fits}
use Rattle.wire.proofs.LookupLaws.{first_before, first_is}
use Rattle.names.specs.Held.{name_of, name_bytes}
use Rattle.names.specs.Node.{node_name}
use Rattle.names.proofs.HeldLaws.{name_back}
use Rattle.epmd_rules.specs.declared.registration.Registration.{Registration}
use Rattle.epmd_rules.specs.State.{Registry}
use Rattle.std.specs.Prelude.{Ok, Err}
use Rattle.epmd_rules.specs.declared.refusal.Refusal.TheVariants.{ZeroCreation}
use Rattle.epmd_rules.specs.declared.request.Request.TheVariants.{Alive2}
use Rattle.epmd_rules.specs.Messages.{alive2_req}
use Rattle.epmd_rules.specs.Registration.{free, is_free, extra_of, extra_bytes, has_name, has_connection}
use Rattle.epmd_rules.specs.Registry.{fresh, new_of, entry_at, by_name, by_connection, lowest_free, stepped, filled}
use Rattle.epmd_rules.specs.Requests.{line_room, examine_of}
use Rattle.epmd_rules.specs.Replies.{port2_found, port2_reply, name_lines, line_of, names_reply}
use Rattle.epmd_rules.specs.Serve.{Outcome, result_of, registration_of, request_of}
use Rattle.epmd_rules.specs.Claims.{made, requested, closed, NumbersHeld, PlaceSound, RegistrySound, AlwaysSound, RegisteredFound, NamesFit}
use Rattle.epmd_rules.proofs.Calls.{step_within, After, same, more, after_request, filled_here, filled_other, Afterwards, none_freed, one_freed, after_close, without, free_is_free}
use Rattle.epmd_rules.proofs.RequestLaws.{alive2_body_lem, alive2_name_some, alive2_named}
use Rattle.epmd_rules.proofs.ReplyLaws.{line_within}
use Rattle.epmd_rules.proofs.ServeLaws.{call_asked, alive2_fills, result_admits}
use Rattle.epmd_rules.proofs.PlaceLaws.{finds_name, finds_connection, not_found}

-- ---- making

free_name : length (name_bytes free.name) ≤ 255
unfolding free name_of name_bytes
free_name = omega arith

free_numbers : NumbersHeld free
unfolding free
free_numbers = record { port = omega arith; kind = omega arith; protocol = omega arith; highest = omega arith; lowest = omega arith }

pub extra_back : (bs : List ℕ) → extra_bytes (extra_of bs) ≡ bs
unfolding extra_of extra_bytes
extra_back bs = take_at bs (replicate (128 - length bs) 0) (length bs) refl

free_named : free.name ≡ name_of (name_bytes free.name)
unfolding free
free_named = ap name_of (sym (name_back []))

free_extra : length (extra_bytes free.extra) ≤ 128
unfolding free
free_extra = omega (arith, ap length (extra_back []))

free_padded : free.extra ≡ extra_of (extra_bytes free.extra)
unfolding free
free_padded = ap extra_of (sym (extra_back []))

place_free : PlaceSound free
place_free =
    record {
      zero_if_free = λ e. refl;
      created = λ e. cc free_is_free;
      named = λ e. cc free_is_free;
      name_held = free_name;
      name_padded = free_named;
      extra_held = free_extra;
      extra_padded = free_padded;
      numbers_held = free_numbers;
    }

-- a place that is taken by one of two equal descriptions is not free
not_taken : {p : Registration} → p ≡ free → is_free p ≡ false → ⊥
not_taken {p} e f = cc (ap is_free e, free_is_free)

fresh_entry : (port next i : ℕ) → i < 64 → entry_at (fresh port next) i ≡ free
unfolding entry_at fresh
fresh_entry port next i h = get_or-replicate 64 i free free h

fresh_places : (port next : ℕ) → length (fresh port next).registrations ≡ 64
unfolding fresh
fresh_places port next = length-replicate 64 free

fresh_port : (port next : ℕ) → (fresh port next).port ≡ port
unfolding fresh
fresh_port port next = refl

fresh_next : (port next : ℕ) → (fresh port next).next ≡ next
unfolding fresh
fresh_next port next = refl

fresh_sound : (port next : ℕ) → port ≤ 65535 → 1 ≤ next → next ≤ 4294967295 → RegistrySound (fresh port next)
fresh_sound port next o l h =
    record {
      places = fresh_places port next;
      own_port_held = omega (arith, fresh_port port next);
      next_some = omega (arith, fresh_next port next);
      next_held = omega (arith, fresh_next port next);
      each = λ i m. subst PlaceSound (sym (fresh_entry port next i m)) place_free;
      names_apart = λ i j m n d e f g. not_taken (fresh_entry port next i m) e;
      connections_apart = λ i j m n d e f g. not_taken (fresh_entry port next i m) e;
    }

-- ---- one more registration

module _ (r : Registry) (c : ℕ) (frame : List ℕ) (given : ℕ) (a : examine_of frame given ≡ Ok Alive2) where
  new : Registration
  new = registration_of c r.next (body frame)

  unnew : registration_of c r.next (body frame) ≡ new
  unfolding new
  unnew = refl

  new_name : name_bytes new.name ≡ run_at alive2_req 6 (body frame)
  unfolding new registration_of
  new_name = name_back (run_at alive2_req 6 (body frame))

  new_taken : is_free new ≡ false
  unfolding is_free
  new_taken = ne_eqb (length (name_bytes new.name)) 0 (λ e. omega (arith, ap length new_name, alive2_name_some frame given a))

  new_has : has_name (run_at alive2_req 6 (body frame)) new ≡ true
  new_has = (finds_name (run_at alive2_req 6 (body frame))).found new new_taken new_name

  new_name_held : length (name_bytes new.name) ≤ 255
  new_name_held = omega (arith, ap length new_name, (alive2_body_lem frame given a).name)

  new_padded : new.name ≡ name_of (name_bytes new.name)
  unfolding new registration_of
  new_padded = ap name_of (sym (name_back (run_at alive2_req 6 (body frame))))

  new_extra : extra_bytes new.extra ≡ run_at alive2_req 7 (body frame)
  unfolding new registration_of
  new_extra = extra_back (run_at alive2_req 7 (body frame))

  new_extra_padded : new.extra ≡ extra_of (extra_bytes new.extra)
  unfolding new registration_of
  new_extra_padded = ap extra_of (sym (extra_back (run_at alive2_req 7 (body frame))))

  new_numbers : Octets frame → NumbersHeld new
  unfolding new registration_of body
  new_numbers o =
      let b = body frame in
      let w = (alive2_body_lem frame given a).whole in
      let fits = be_at_fits b (octets_drop frame 2 o) in
      record {
        port = omega (arith, fits 1 2 (omega (arith, w)));
        kind = omega (arith, fits 3 1 (omega (arith, w)));
        protocol = omega (arith, fits 4 1 (omega (arith, w)));
        highest = omega (arith, fits 5 2 (omega (arith, w)));
        lowest = omega (arith, fits 7 2 (omega (arith, w)));
      }

  new_creation : new.creation ≡ r.next
  unfolding new registration_of
  new_creation = refl

  new_connection : new.connection ≡ c
  unfolding new registration_of
  new_connection = refl

  new_sound : Octets frame → 1 ≤ r.next → r.next ≤ 4294967295 → PlaceSound new
  new_sound o l h =
      record {
        zero_if_free = λ e. cc new_taken;
        created = λ e. (omega (arith, new_creation), omega (arith, new_creation));
        named = λ e. ap node_name new_name ∙ alive2_named frame given a;
        name_held = new_name_held;
        name_padded = new_padded;
        extra_held = omega (arith, ap length new_extra, (alive2_body_lem frame given a).extra);
        extra_padded = new_extra_padded;
        numbers_held = new_numbers o;
      }

  module _ (s : RegistrySound r) (z : result_of r c (run_at alive2_req 6 (body frame)) ≡ 0) where
    room : lowest_free r < 64
    room = (result_admits r c (run_at alive2_req 6 (body frame)) z).room

    -- every taken place has another name and another connection than the new one
    fresh_name : (i : ℕ) → i < 64 → is_free (entry_at r i) ≡ false → name_bytes (entry_at r i).name ≡ name_bytes new.name → ⊥
    unfolding entry_at by_name
    fresh_name i h f e =
        not_found (finds_name (run_at alive2_req 6 (body frame))) (entry_at r i)
        (first_before (has_name (run_at alive2_req 6 (body frame))) r.registrations free i (omega (arith, (result_admits r c (run_at alive2_req 6 (body frame)) z).no_name)))
        f (e ∙ new_name)

    fresh_connection : (i : ℕ) → i < 64 → is_free (entry_at r i) ≡ false → (entry_at r i).connection ≡ new.connection → ⊥
    unfolding entry_at by_connection
    fresh_connection i h f e =
        not_found (finds_connection c) (entry_at r i)
        (first_before (has_connection c) r.registrations free i (omega (arith, (result_admits r c (run_at alive2_req 6 (body frame)) z).no_connection)))
        f (e ∙ new_connection)

    here : entry_at (filled r new) (lowest_free r) ≡ new
    here = filled_here r new s.places room

    there : (i : ℕ) → (i ≡ lowest_free r → ⊥) → entry_at (filled r new) i ≡ entry_at r i
    there i h = filled_other r new s.places room i h

    -- an index is that of the new place, or of an old one
    data Where (i : ℕ) : Type 0 where
      at_new : i ≡ lowest_free r → entry_at (filled r new) i ≡ new → Where i
      at_old : entry_at (filled r new) i ≡ entry_at r i → Where i

    where_is : (i : ℕ) → Where i
    where_is i = by (eqb i (lowest_free r)) refl where
      by : (t : Bool) → eqb i (lowest_free r) ≡ t → Where i
      by true e = let k = eqb-true i (lowest_free r) e in at_new k (ap (entry_at (filled r new)) k ∙ here)
      by false e = at_old (there i (eqb-false i (lowest_free r) e))

    filled_each : Octets frame → (i : ℕ) → i < 64 → PlaceSound (entry_at (filled r new) i)
    filled_each o i h = by (where_is i) where
      by : Where i → PlaceSound (entry_at (filled r new) i)
      by (at_new k e) = subst PlaceSound (sym e) (new_sound o s.next_some s.next_held)
      by (at_old e) = subst PlaceSound (sym e) (s.each i h)

    -- a fact of two places: that they share nothing of a kind
    filled_apart : {A : Type 0} (of : Registration → A) → ((i : ℕ) → i < 64 → is_free (entry_at r i) ≡ false → of (entry_at r i) ≡ of new → ⊥)
        → ((i j : ℕ) → i < 64 → j < 64 → (i ≡ j → ⊥) → is_free (entry_at r i) ≡ false → is_free (entry_at r j) ≡ false → of (entry_at r i) ≡ of (entry_at r j) → ⊥)
        → (i j : ℕ) → i < 64 → j < 64 → (i ≡ j → ⊥) → is_free (entry_at (filled r new) i) ≡ false → is_free (entry_at (filled r new) j) ≡ false
        → of (entry_at (filled r new) i) ≡ of (entry_at (filled r new) j) → ⊥
    filled_apart of other old i j hi hj d fi fj e = by (where_is i) (where_is j) where
      by : Where i → Where j → ⊥
      by (at_new k p) (at_new l q) = d (k ∙ sym l)
      by (at_new k p) (at_old q) = other j hj (ap is_free (sym q) ∙ fj) (ap of (sym q) ∙ sym e ∙ ap of p)
      by (at_old p) (at_new l q) = other i hi (ap is_free (sym p) ∙ fi) (ap of (sym p) ∙ e ∙ ap of q)
      by (at_old p) (at_old q) = old i j hi hj d (ap is_free (sym p) ∙ fi) (ap is_free (sym q) ∙ fj) (ap of (sym p) ∙ e ∙ ap of q)

    filled_places : length (filled r new).registrations ≡ 64
    unfolding filled
    filled_places = length-set r.registrations (lowest_free r) new ∙ s.places

    filled_port : (filled r new).port ≡ r.port
    unfolding filled
    filled_port = refl

    filled_next : (filled r new).next ≡ stepped r.next
    unfolding filled
    filled_next = refl

    filled_sound : Octets frame → RegistrySound (filled r new)
    filled_sound o =
        let n = step_within r.next s.next_some s.next_held in
        record {
          places = filled_places;
          own_port_held = omega (arith, filled_port, s.own_port_held);
          next_some = omega (arith, filled_next, n.0);
          next_held = omega (arith, filled_next, n.1);
          each = filled_each o;
          names_apart = filled_apart (λ p. name_bytes p.name) fresh_name s.names_apart;
          connections_apart = filled_apart (λ p. p.connection) fresh_connection s.connections_apart;
        }

    -- the name is found where it was registered
    new_found : by_name (filled r new) (run_at alive2_req 6 (body frame)) ≡ lowest_free r
    unfolding by_name entry_at filled
    new_found =
        let name = run_at alive2_req 6 (body frame) in
        first_is (has_name name) (filled r new).registrations free (lowest_free r) (omega (arith, filled_places, room))
        (λ j m. ap (has_name name) (there j (λ e. omega arith)) ∙ first_before (has_name name) r.registrations free j (omega (arith, (result_admits r c name z).no_name, room)))
        (λ m. ap (has_name name) here ∙ new_has)

-- ---- one registration less

module _ (r : Registry) (k : ℕ) (h : k < 64) (s : RegistrySound r) where
  gone : entry_at (without r k) k ≡ free
  unfolding entry_at
  gone = get_or-set_same r.registrations k free free (omega (arith, s.places))

  kept : (i : ℕ) → (i ≡ k → ⊥) → entry_at (without r k) i ≡ entry_at r i
  unfolding entry_at
  kept i d = get_or-set_other r.registrations k i free free d

  -- a taken place is an old one
  old_place : (i : ℕ) → is_free (entry_at (without r k) i) ≡ false → entry_at (without r k) i ≡ entry_at r i
  old_place i f = by (eqb i k) refl where
    by : (t : Bool) → eqb i k ≡ t → entry_at (without r k) i ≡ entry_at r i
    by true e = absurd (not_taken (ap (entry_at (without r k)) (eqb-true i k e) ∙ gone) f)
    by false e = kept i (eqb-false i k e)

  without_each : (i : ℕ) → i < 64 → PlaceSound (entry_at (without r k) i)
  without_each i m = by (eqb i k) refl where
    by : (t : Bool) → eqb i k ≡ t → PlaceSound (entry_at (without r k) i)
    by true e = subst PlaceSound (sym (ap (entry_at (without r k)) (eqb-true i k e) ∙ gone)) place_free
    by false e = subst PlaceSound (sym (kept i (eqb-false i k e))) (s.each i m)

  without_apart : {A : Type 0} (of : Registration → A)
      → ((i j : ℕ) → i < 64 → j < 64 → (i ≡ j → ⊥) → is_free (entry_at r i) ≡ false → is_free (entry_at r j) ≡ false → of (entry_at r i) ≡ of (entry_at r j) → ⊥)
      → (i j : ℕ) → i < 64 → j < 64 → (i ≡ j → ⊥) → is_free (entry_at (without r k) i) ≡ false → is_free (entry_at (without r k) j) ≡ false
      → of (entry_at (without r k) i) ≡ of (entry_at (without r k) j) → ⊥
  without_apart of old i j hi hj d fi fj e =
      let p = old_place i fi in
      let q = old_place j fj in
      old i j hi hj d (ap is_free (sym p) ∙ fi) (ap is_free (sym q) ∙ fj) (ap of (sym p) ∙ e ∙ ap of q)

  without_sound : RegistrySound (without r k)
  without_sound =
      record {
        places = length-set r.registrations k free ∙ s.places;
        own_port_held = s.own_port_held;
        next_some = s.next_some;
        next_held = s.next_held;
        each = without_each;
        names_apart = without_apart (λ p. name_bytes p.name) s.names_apart;
        connections_apart = without_apart (λ p. p.connection) s.connections_apart;
      }

-- ---- THE THEOREMS

new_refused : (port first : ℕ) → first ≡ 0 → (new_of port first).making ≡ Err ZeroCreation
unfolding new_of
new_refused port first e = rw (eq-eqb first 0 e)

new_made : (port first : ℕ) → (first ≡ 0 → ⊥) → (new_of port first).registry ≡ fresh port first
unfolding new_of
new_made port first e = rw (ne_eqb first 0 e)

sound_made : (port first : ℕ) → port ≤ 65535 → first ≤ 4294967295 → (new_of port first).making ≡ Ok tt → RegistrySound (new_of port first).registry
sound_made port first o h e =
    let some : first ≡ 0 → ⊥ = λ (z : first ≡ 0). (cc (new_refused port first z)) in
    subst RegistrySound (sym (new_made port first some)) (fresh_sound port first o (omega (arith, some)) h)

pub always_sound : AlwaysSound
always_sound _ (made port first p h e) = sound_made port first p h e
always_sound _ (requested r c frame given o reach) = by (always_sound r reach) (after_request r c frame given) where
  by : {s : Registry} → RegistrySound r → After r c frame given s → RegistrySound s
  by sound (same e) = subst RegistrySound (sym e) sound
  by sound (more a z e) = subst RegistrySound (sym (e ∙ ap (filled r) (unnew r c frame given a))) (filled_sound r c frame given a sound z o)
always_sound _ (closed r c reach) = by (always_sound r reach) (after_close r c) where
  by : {s : Registry} → RegistrySound r → Afterwards r c s → RegistrySound s
  by sound (none_freed e) = subst RegistrySound (sym e) sound
  by sound (one_freed h e) = subst RegistrySound (sym e) (without_sound r (by_connection r c) h sound)

pub registered_found : RegisteredFound
unfolding port2_reply
registered_found r c frame given reach a z =
    let s = always_sound r reach in
    let name = run_at alive2_req 6 (body frame) in
    let n = new r c frame given a in
    let f = new_found r c frame given a s z in
    let e : (request_of r c frame given).registry ≡ filled r n =
    ap (λ (o : Outcome). o.registry) (call_asked r c frame given (Ok Alive2) a ∙ alive2_fills r c (body frame) (result_of r c name) refl z)
    ∙ ap (filled r) (unnew r c frame given a) in
    ap (λ (x : Registry). port2_reply x name) e
    ∙ rw (f, lt-ltb (lowest_free r) 64 (result_admits r c name z).room)
    (ap port2_found (here r c frame given a s z ∙ sym (unnew r c frame given a)))

lines_within : (ps : List Registration) → ((i : ℕ) → i < length ps → length (line_of (get_or ps i free)) ≤ line_room) → length (name_lines ps) ≤ line_room * length ps
unfolding name_lines
lines_within [] h = omega arith
lines_within (p ∷ ps) h =
    omega (arith, length-append (line_of p) (name_lines ps), h 0 (omega arith), lines_within ps (λ i m. h (suc i) (omega arith)))

pub names_fit : NamesFit
unfolding names_reply entry_at
names_fit r reach =
    let s = always_sound r reach in
    omega (
      arith,
      lines_within r.registrations
          (λ i m. let e = s.each i (omega (arith, s.places)) in line_within (entry_at r i) e.name_held (omega (arith, e.numbers_held.port))),
      s.places,
    )
