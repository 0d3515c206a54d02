-- Which number each writer and reader gives, exactly when (specs/Claims). Assumes nothing.
use Prim.Native.Nat.{ℕ, ◌+◌}
use mathlib.Core.Path.{◌≡◌, refl, subst}
use mathlib.Core.Bool.{Bool, true, false, cond}
use mathlib.Core.List.{List, [], ◌∷◌}
use native.Mathlib.Omega.{arith}
use lib.ListN.{length}
use Rattle.std.specs.Prelude.{Result, Ok, Err}
use lib.Dec.{eqb, leb}
use Rattle.wire.specs.Layout.{extent}
use Rattle.wire.specs.Number.{be_at}
use Rattle.names.specs.Node.{node_name}
use Rattle.epmd_rules.specs.declared.refusal.Refusal.TheVariants.{OutputTooShort, BadLength, BadName, BadVersions}
use Rattle.epmd_rules.specs.Messages.{port2_resp}
use Rattle.epmd_rules.specs.Requests.{◌else◌, first_refusal, tag, versions_ok}
use Rattle.epmd_client_rules.specs.declared.unreadable.Unreadable.{Unreadable}
use Rattle.epmd_client_rules.specs.declared.unreadable.Unreadable.TheVariants.{WrongTag, WrongLength}
use Rattle.epmd_client_rules.specs.declared.reply.Alive2Reply.{Alive2Reply}
use Rattle.epmd_client_rules.specs.declared.reply.Alive2Reply.TheVariants as alive2
use Rattle.epmd_client_rules.specs.declared.reply.Port2.{Port2}
use Rattle.epmd_client_rules.specs.declared.reply.Port2Reply.{Port2Reply}
use Rattle.epmd_client_rules.specs.declared.reply.Port2Reply.TheVariants as port2
use Rattle.epmd_client_rules.specs.Requests.{refused, alive2_frame, port_please2_frame, names_frame, alive2_writing, port_please2_writing, names_writing}
use Rattle.epmd_client_rules.specs.Replies.{result_in, is_alive2_reply, alive2_long, creation_in, port2_long, fields_in, alive2_read, port2_read}
use Rattle.epmd_client_rules.specs.Answers.{unreadable_number, alive2_numbers, port2_numbers}
use Rattle.epmd_client_rules.specs.Claims.{Alive2Gives, PortPlease2Gives, NamesGives, ReplyGives, RefusedExactly}
use Rattle.epmd_client_rules.proofs.ReadingLaws.{read_exactly}
use Rattle.epmd_client_rules.proofs.WritingLaws.{alive2_size_lem, port_please2_size, names_size}

-- ---- writers: by the answers of their tests

alive2_gives : (extra name versions long : Bool) (count : ℕ) (bs : List ℕ)
    → Alive2Gives extra name versions long
    (first_refusal refused ((extra else BadLength) ∷ (name else BadName) ∷ (versions else BadVersions) ∷ (long else OutputTooShort) ∷ []) (record { answer = Ok count; bytes = bs }))
alive2_gives false name versions long count bs = record { five = refl; six = refl; seven = refl; one = refl; none = refl }
alive2_gives true false versions long count bs = record { five = refl; six = refl; seven = refl; one = refl; none = refl }
alive2_gives true true false long count bs = record { five = refl; six = refl; seven = refl; one = refl; none = refl }
alive2_gives true true true false count bs = record { five = refl; six = refl; seven = refl; one = refl; none = refl }
alive2_gives true true true true count bs = record { five = refl; six = refl; seven = refl; one = refl; none = refl }

port_please2_gives : (name long : Bool) (count : ℕ) (bs : List ℕ)
    → PortPlease2Gives name long (first_refusal refused ((name else BadName) ∷ (long else OutputTooShort) ∷ []) (record { answer = Ok count; bytes = bs }))
port_please2_gives false long count bs = record { six = refl; one = refl; none = refl }
port_please2_gives true false count bs = record { six = refl; one = refl; none = refl }
port_please2_gives true true count bs = record { six = refl; one = refl; none = refl }

names_gives : (long : Bool) (count : ℕ) (bs : List ℕ)
    → NamesGives long (first_refusal refused ((long else OutputTooShort) ∷ []) (record { answer = Ok count; bytes = bs }))
names_gives false count bs = record { one = refl; none = refl }
names_gives true count bs = record { one = refl; none = refl }

-- ---- readers: whatever is told where nothing is refused

module _ {A : Type 0} (refusal : A → ℕ) (stop : Unreadable → A) (due : A) (stops : (u : Unreadable) → refusal (stop u) ≡ unreadable_number u) (done : refusal due ≡ 0) where
  reply_gives : (some tagged long : Bool)
      → ReplyGives some tagged long (refusal (first_refusal stop ((some else WrongLength) ∷ (tagged else WrongTag) ∷ (long else WrongLength) ∷ []) due))
  reply_gives false tagged long = rw (stops WrongLength) (record { four = refl; five = refl; none = refl })
  reply_gives true false long = rw (stops WrongTag) (record { four = refl; five = refl; none = refl })
  reply_gives true true false = rw (stops WrongLength) (record { four = refl; five = refl; none = refl })
  reply_gives true true true = rw done (record { four = refl; five = refl; none = refl })

alive2_due : (t : Bool) (tag creation result : ℕ) → (alive2_numbers (Ok (cond t (alive2.Registered tag creation) (alive2.Failed tag result)))).refusal ≡ 0
alive2_due true tag creation result = refl
alive2_due false tag creation result = refl

port2_due : (t : Bool) (p : Port2) (result : ℕ) → (port2_numbers (Ok (cond t (port2.Found p) (port2.Failed result)))).refusal ≡ 0
port2_due true p result = refl
port2_due false p result = refl

pub refused_exactly : RefusedExactly
unfolding alive2_writing port_please2_writing names_writing alive2_read port2_read
refused_exactly =
    record {
      alive2_request = λ port kind protocol highest lowest name extra given.
          let f = alive2_frame port kind protocol highest lowest name extra in
          subst (λ (n : ℕ). Alive2Gives (leb (length extra) 128) (node_name name) (versions_ok highest lowest) (leb n given) (alive2_writing port kind protocol highest lowest name extra given))
          (alive2_size_lem port kind protocol highest lowest name extra)
          (alive2_gives (leb (length extra) 128) (node_name name) (versions_ok highest lowest) (leb (length f) given) (length f) f);
      port_please2_request = λ name given.
          let f = port_please2_frame name in
          subst (λ (n : ℕ). PortPlease2Gives (node_name name) (leb n given) (port_please2_writing name given)) (port_please2_size name)
          (port_please2_gives (node_name name) (leb (length f) given) (length f) f);
      names_request = λ given.
          subst (λ (n : ℕ). NamesGives (leb n given) (names_writing given)) names_size (names_gives (leb (length names_frame) given) (length names_frame) names_frame);
      alive2_reply_lem = λ b.
          reply_gives (λ (r : Result Alive2Reply Unreadable). (alive2_numbers r).refusal) Err (Ok (cond (eqb (result_in b) 0) (alive2.Registered (tag b) (creation_in b)) (alive2.Failed (tag b) (result_in b)))) (λ u. refl)
          (alive2_due (eqb (result_in b) 0) (tag b) (creation_in b) (result_in b)) (leb 1 (length b)) (is_alive2_reply (tag b)) (alive2_long b);
      port2_reply_lem = λ b.
          let size : extent port2_resp b ≡ 14 + be_at 2 10 b + be_at 2 (12 + be_at 2 10 b) b = omega arith in
          subst (λ (n : ℕ). ReplyGives (leb 1 (length b)) (eqb (tag b) 119) (eqb (length b) (cond (eqb (result_in b) 0) n 2)) (port2_numbers (port2_read b)).refusal) size
          (reply_gives (λ (r : Result Port2Reply Unreadable). (port2_numbers r).refusal) Err (Ok (cond (eqb (result_in b) 0) (port2.Found (fields_in b)) (port2.Failed (result_in b)))) (λ u. refl)
          (port2_due (eqb (result_in b) 0) (fields_in b) (result_in b)) (leb 1 (length b)) (eqb (tag b) 119) (port2_long b));
      names_reply_lem = read_exactly;
    }
