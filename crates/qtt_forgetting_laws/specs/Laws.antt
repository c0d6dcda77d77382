-- What is read, resolved and filled is forgotten back.
use Rattle.std.specs.Prelude.{◌≡◌, ℕ, List, map, All, Ok}
use Rattle.qtt_base.specs.declared.place.ModuleId.{ModuleId}
use Rattle.qtt_layout.specs.declared.laid.Laid.{Laid}
use Rattle.qtt_syntax.specs.Tree.{Module}
use Rattle.qtt_grammar.specs.Parsed.{parsed}
use Rattle.qtt_names.specs.Exports.{Exports}
use Rattle.qtt_names.specs.PrimNames.{scope_of}
use Rattle.qtt_names.specs.PrimSigs.{prim_exports}
use Rattle.qtt_names.specs.Resolved.{resolved}
use Rattle.qtt_names.specs.Scope.{Imported}
use Rattle.qtt_implicit.specs.Filled.{FilledText, filled}
use Rattle.qtt_implicit.specs.Forget.{text_forgotten}
use Rattle.qtt_implicit.specs.Laws.{IsWritten, HasItsBinders}
use Rattle.qtt_term.specs.Entries.{Entries}
use Rattle.qtt_module.specs.Prepared.{imported}
use Rattle.qtt_module.specs.Text.{Accepted, judged_text}

-- The tree of marks that are read is as texts are written: each application has arguments, those in braces stand in
-- front, and nothing was inserted. The targets of its names change nothing of that.
pub record ReadTextsAreWritten : Type 0 where
  pub read : (ms : List Laid) (t : Module) → parsed ms ≡ Ok t → IsWritten t
  pub with_targets : (home : ModuleId) (imports : List Imported) (t u : Module) →
      IsWritten t → resolved (scope_of home t imports) t ≡ Ok u → IsWritten u

-- Each signature has the binders that it counts: those of a filled text, over whatever is imported, those that a
-- judged module gives, and those of Prim.
pub record SignaturesHaveTheirBinders : Type 0 where
  pub of_filled : (home : ModuleId) (imports : List Exports) (text : Module) (r : FilledText) →
      filled home imports text ≡ Ok r → All HasItsBinders r.sigs
  pub of_judged : (id : ModuleId) (n : ℕ) (asked : List ℕ) (imports : List Exports) (G : Entries) (m : Module)
      (A : Accepted) → judged_text id n asked imports G m ≡ Ok A → All HasItsBinders A.exports.sigs
  pub of_prim : All HasItsBinders prim_exports.sigs

-- what Prim or a judged module gives to those that import it
pub data IsGiven : Exports → Type 0 where
  by_prim : IsGiven prim_exports
  by_module : (id : ModuleId) (n : ℕ) (asked : List ℕ) (imports : List Exports) (G : Entries) (m : Module)
      (A : Accepted) → judged_text id n asked imports G m ≡ Ok A → IsGiven A.exports

-- A text that is read, whose names have their targets, and that is filled, all over what judged modules give: without
-- what was filled in it is the text with targets again.
abbrev pub ReadTextsAreForgotten : Type 0
ReadTextsAreForgotten =
    (ms : List Laid) (home : ModuleId) (imports : List Exports) (t u : Module) (r : FilledText) →
    parsed ms ≡ Ok t → All IsGiven imports → resolved (scope_of home t (map imported imports)) t ≡ Ok u →
    filled home imports u ≡ Ok r → text_forgotten r.text ≡ u
