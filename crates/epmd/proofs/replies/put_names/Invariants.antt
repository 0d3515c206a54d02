use Prim.Native.Nat.{◌+◌, ◌*◌, ◌≤◌}
use Rattle.epmd_rules.specs.Requests.{line_room}
use Rattle.epmd_rules.proofs.ReplyLaws.{Sofar}
use Rattle.epmd_state.specs.Bytes.{registry_of}
use Rattle.epmd.proofs.replies.put_names.Given as goal

abbrev pub invariant-loop-place : goal.invariant-loop-place
invariant-loop-place l =
    record {
      room : l.at ≤ 4 + line_room * l.place-index;
      sofar : Sofar (registry_of l.state).registrations l.place-index l.initial.out l.out l.at;
    }
