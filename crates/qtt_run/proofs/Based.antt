-- Where the code of a definition begins.
use Rattle.std.proofs.Common.{◌≡◌, List, Some, option_map, sym, ◌∙◌, ap}
use Rattle.qtt_base.specs.declared.place.GlobalId.{GlobalId}
use Rattle.qtt_term.specs.declared.globals.Globals.{Globals}
use Rattle.qtt_term.specs.Globals.{env}
use Rattle.qtt_term.specs.Signature.{Env}
use Rattle.qtt_term.specs.Environment.{WellFormed, Complete, IsMain}
use Rattle.qtt_term.specs.Keyed.{with_id}
use Rattle.qtt_erase.specs.Lean.{Lean}
use Rattle.qtt_erase.specs.Erasure.{erased_bodies}
use Rattle.qtt_lower.specs.declared.program.Compiled.{Compiled}
use Rattle.qtt_lower.specs.Compiled.{definition_ids}
use Rattle.qtt_lower.specs.Programs.{base_id, bases, bodies}
use Rattle.qtt_lower.specs.Programs as programs
use Rattle.qtt_lower.specs.Whole.{IsProgramOf}
use Rattle.qtt_run.specs.Code.{Lists, first_block}
use Rattle.qtt_run.specs.Program.{IsCodeOfMain, block_of}
use Rattle.qtt_run.proofs.Compiled.{compiled-is-code}
use Rattle.qtt_run.proofs.Entries.{has-coded, based}

main-coded : (E : Env) → Complete E → (main : GlobalId) → IsMain E main → (t : Lean) × (erased_bodies E main ≡ Some t)
main-coded E whole main m =
    has-coded E main
    (record {
      definition = m.definition;
      there = m.there;
      used = m.usable;
      body = whole main m.definition m.there m.usable;
    })

pub main-begins : (E : Env) → Complete E → (ds : List GlobalId) → Lists E ds → (main : GlobalId) → IsMain E main →
    option_map block_of (with_id base_id main (bases (bodies E ds))) ≡ Some (first_block E ds main)
main-begins E whole ds listed main m =
    let (t, e) = main-coded E whole main m in
    let (b, f) = based E main t e 0 ds (listed main t e) in
    ap (option_map block_of) f ∙ ap (λ o. Some (programs.block_of o)) (sym f)

pub compiled-main : (g : Globals) (c : Compiled) (main : GlobalId) → IsProgramOf g c → WellFormed (env g) →
    Complete (env g) →
    IsMain (env g) main → IsCodeOfMain c main (env g)
compiled-main g c main p w whole m =
    let k = compiled-is-code g c p in
    record {
      well_formed = w;
      complete = whole;
      is_main = m;
      ids = definition_ids g;
      listed = k.listed;
      program = k.program;
      begins =
          ap (λ bs. option_map block_of (with_id base_id main bs)) p.bases ∙ main-begins (env g) whole
          (definition_ids g) k.listed main m;
    }
