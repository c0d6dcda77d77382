-- Lowering a whole environment gives its code.
use Rattle.std.proofs.Common.{ap}
use Rattle.qtt_term.specs.declared.globals.Globals.{Globals}
use Rattle.qtt_term.specs.Globals.{env, definitions}
use Rattle.qtt_term.specs.Items.{definition_id}
use Rattle.qtt_lower.specs.declared.program.Compiled.{Compiled}
use Rattle.qtt_lower.specs.Programs.{entry}
use Rattle.qtt_lower.specs.Compiled.{definition_ids}
use Rattle.qtt_lower.specs.Whole.{IsProgramOf, compiled_bases}
use Rattle.qtt_run.specs.Code.{Lists}
use Rattle.qtt_run.specs.Compiled.{IsCodeOf}
use Rattle.qtt_run.proofs.Entries.{entries-have-code}
use Rattle.qtt_run.proofs.Listing.{lists-there, found-listed}

pub compiled-is-code : (g : Globals) (c : Compiled) → IsProgramOf g c → IsCodeOf g c
compiled-is-code g c p =
    let listed : Lists (env g) (definition_ids g) =
    lists-there (env g) (definition_ids g)
    (λ d h. found-listed definition_id (λ e. e.definition) (definitions g) d h) in
    record {
      listed = listed;
      program = p.program;
      begins = λ d. ap (λ bs. entry bs d) p.bases;
      entries = entries-have-code (env g) (definition_ids g) listed (compiled_bases c) p.bases;
    }
