-- Every claim of specs/Claims, with its proof. Assumes nothing.
use Rattle.epmd_rules.specs.Claims.{Promises}
use Rattle.epmd_rules.proofs.Reachable.{always_sound, registered_found, names_fit}
use Rattle.epmd_rules.proofs.Calls.{refusal_keeps, failure_keeps, creation_wraps, taken_kept, freed_next}
use Rattle.epmd_rules.proofs.Found.{close_keeps, asked_found, call_finds, replies_fit}
use Rattle.epmd_rules.proofs.Next.{next_steps}
use Rattle.epmd_rules.proofs.Results.{result_tells, creation_field_zero}

pub promises : Promises
promises =
    record {
      always_sound = always_sound;
      refusal_keeps = refusal_keeps;
      failure_keeps = failure_keeps;
      result_tells = result_tells;
      creation_field_zero = creation_field_zero;
      creation_wraps = creation_wraps;
      next_steps = next_steps;
      taken_kept = taken_kept;
      close_keeps = close_keeps;
      asked_found = asked_found;
      call_finds = call_finds;
      registered_found = registered_found;
      freed_next = freed_next;
      names_fit = names_fit;
      replies_fit = replies_fit;
    }
