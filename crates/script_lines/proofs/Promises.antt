-- Every claim of specs/Claims, with its proof. Assumes nothing.
use Rattle.script_lines.specs.Claims.{Promises}
use Rattle.script_lines.proofs.ReadBack.{hex_back, hex_only, decimal_back, decimal_taken}
use Rattle.script_lines.proofs.ConnLine.{conn_line}
use Rattle.script_lines.proofs.PartLaws.{parts_print}
use Rattle.script_lines.proofs.WholeCase.{whole_case}

pub promises : Promises
promises =
    record {
      hex_back = hex_back;
      hex_only = hex_only;
      decimal_back = decimal_back;
      decimal_taken = decimal_taken;
      conn_line = conn_line;
      parts_print = parts_print;
      whole_case = whole_case;
    }
