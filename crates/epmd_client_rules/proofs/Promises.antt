-- Every claim of specs/Claims, with its proof. Assumes nothing.
use Rattle.epmd_client_rules.specs.Claims.{Promises}
use Rattle.epmd_client_rules.proofs.ReadingLaws.{told_once, listing_told, lines_lie}
use Rattle.epmd_client_rules.proofs.Pairs.{pair_ambiguous}
use Rattle.epmd_client_rules.proofs.Exactly.{refused_exactly}
use Rattle.epmd_client_rules.proofs.Accepted.{request_accepted}
use Rattle.epmd_client_rules.proofs.Back.{parts_lie}
use Rattle.epmd_client_rules.proofs.Called.{reply_read, asked_and_read, registered_and_read}

pub promises : Promises
promises =
    record {
      request_accepted = request_accepted;
      reply_read = reply_read;
      asked_and_read = asked_and_read;
      registered_and_read = registered_and_read;
      parts_lie = parts_lie;
      refused_exactly = refused_exactly;
      listing_told = listing_told;
      told_once = told_once;
      lines_lie = lines_lie;
      pair_ambiguous = pair_ambiguous;
    }
