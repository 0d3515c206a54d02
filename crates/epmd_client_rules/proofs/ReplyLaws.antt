-- Laws of the readers of 118, 121 and 119, by the tests that code makes. Assumes nothing.
use Prim.Native.Nat.{ℕ, ◌+◌, ◌≤◌, ◌<◌}
use mathlib.Core.Path.{◌≡◌}
use mathlib.Core.Bool.{Bool, true, false, cond}
use mathlib.Core.List.{List}
use native.Mathlib.Omega.{arith}
use borrow.Author.Tests.{le-leb, lt-leb, eq-eqb, ne_eqb}
use lib.ListN.{length}
use Rattle.std.specs.Prelude.{Ok, Err}
use lib.Dec.{eqb}
use Rattle.wire.specs.Number.{be_at}
use Rattle.wire.specs.Layout.{extent, width, int_at}
use Rattle.wire.proofs.RunLaws.{part_length}
use Rattle.epmd_rules.specs.Messages.{alive2_xresp, alive2_resp, port2_resp}
use Rattle.epmd_rules.specs.Requests.{tag}
use Rattle.epmd_client_rules.specs.declared.unreadable.Unreadable.TheVariants.{WrongTag, WrongLength}
use Rattle.epmd_client_rules.specs.declared.reply.Alive2Reply.TheVariants as alive2
use Rattle.epmd_client_rules.specs.declared.reply.Port2Reply.TheVariants as port2
use Rattle.epmd_client_rules.specs.Replies.{result_in, is_alive2_reply, alive2_read, name_in, extra_in, fields_in, port2_long, port2_read}

-- ---- 118 and 121

module _ (b : List ℕ) where
  pub alive2_none : length b ≡ 0 → alive2_read b ≡ Err WrongLength
  unfolding alive2_read
  alive2_none h = rw (lt-leb 1 (length b) (omega arith))

  pub alive2_other : 1 ≤ length b → (tag b ≡ 118 → ⊥) → (tag b ≡ 121 → ⊥) → alive2_read b ≡ Err WrongTag
  unfolding alive2_read
  alive2_other h x s = rw (le-leb 1 (length b) h, ne_eqb (tag b) 118 x, ne_eqb (tag b) 121 s)

  -- each of the two, by its tag
  module _ (h : 1 ≤ length b) (t : ℕ) (e : tag b ≡ t) (is : is_alive2_reply t ≡ true) where
    pub alive2_length : (length b ≡ cond (eqb t 118) (width alive2_xresp) (width alive2_resp) → ⊥) → alive2_read b ≡ Err WrongLength
    unfolding alive2_read
    alive2_length l = rw (le-leb 1 (length b) h, e, is, ne_eqb (length b) (cond (eqb t 118) 6 4) l)

    pub alive2_told_lem : length b ≡ cond (eqb t 118) (width alive2_xresp) (width alive2_resp)
        → alive2_read b ≡ Ok (cond (eqb (result_in b) 0) (alive2.Registered t (cond (eqb t 118) (int_at alive2_xresp 2 b) (int_at alive2_resp 2 b))) (alive2.Failed t (result_in b)))
    unfolding alive2_read
    alive2_told_lem l = rw (le-leb 1 (length b) h, e, is, eq-eqb (length b) (cond (eqb t 118) 6 4) l)

pub ruleset alive2_laws = (alive2_none, alive2_other, alive2_length, alive2_told_lem)

-- ---- 119

module _ (b : List ℕ) where
  pub port2_none : length b ≡ 0 → port2_read b ≡ Err WrongLength
  unfolding port2_read
  port2_none h = rw (lt-leb 1 (length b) (omega arith))

  pub port2_other : 1 ≤ length b → (tag b ≡ 119 → ⊥) → port2_read b ≡ Err WrongTag
  unfolding port2_read
  port2_other h x = rw (le-leb 1 (length b) h, ne_eqb (tag b) 119 x)

  module _ (h : 1 ≤ length b) (e : tag b ≡ 119) where
    -- no Result came
    pub port2_short : length b < 2 → port2_read b ≡ Err WrongLength
    unfolding port2_read
    port2_short l = rw (le-leb 1 (length b) h, e, long) where
      long : port2_long b ≡ false
      long = by (eqb (result_in b) 0) where
        by : (t : Bool) → eqb (length b) (cond t (extent port2_resp b) 2) ≡ false
        by true = ne_eqb (length b) (extent port2_resp b) (λ q. omega arith)
        by false = ne_eqb (length b) 2 (λ q. omega arith)

    module _ (r : result_in b ≡ 0 → ⊥) where
      pub failed_length : (length b ≡ 2 → ⊥) → port2_read b ≡ Err WrongLength
      unfolding port2_read
      failed_length l = rw (le-leb 1 (length b) h, e, ne_eqb (result_in b) 0 r, ne_eqb (length b) 2 l)

      pub failed_told : length b ≡ 2 → port2_read b ≡ Ok (port2.Failed (result_in b))
      unfolding port2_read
      failed_told l = rw (le-leb 1 (length b) h, e, ne_eqb (result_in b) 0 r, eq-eqb (length b) 2 l)

    module _ (r : result_in b ≡ 0) where
      pub found_length : (length b ≡ extent port2_resp b → ⊥) → port2_read b ≡ Err WrongLength
      unfolding port2_read
      found_length l = rw (le-leb 1 (length b) h, e, eq-eqb (result_in b) 0 r, ne_eqb (length b) (extent port2_resp b) l)

      pub found_told : length b ≡ extent port2_resp b → port2_read b ≡ Ok (port2.Found (fields_in b))
      unfolding port2_read
      found_told l = rw (le-leb 1 (length b) h, e, eq-eqb (result_in b) 0 r, eq-eqb (length b) (extent port2_resp b) l)

pub ruleset port2_laws = (port2_none, port2_other, port2_short, failed_length, failed_told)

pub ruleset found_laws = (found_length, found_told)

-- the lengths that a whole reply tells are those of its name and its extra bytes
module _ (b : List ℕ) (whole : length b ≡ extent port2_resp b) where
  pub name_length : length (name_in b) ≡ be_at 2 10 b
  name_length = part_length 12 (be_at 2 10 b) b (omega arith)

  pub extra_length : length (extra_in b) ≡ be_at 2 (12 + be_at 2 10 b) b
  extra_length = part_length (12 + be_at 2 10 b + 2) (be_at 2 (12 + be_at 2 10 b) b) b (omega arith)
