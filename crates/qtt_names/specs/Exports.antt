-- What a module gives to those that import it.
use Rattle.std.specs.Prelude.{ℕ, List, map}
use Rattle.qtt_names.specs.declared.exports.Exports as exports_code
use Rattle.qtt_names.specs.declared.exports.Sig as sig_code
use Rattle.qtt_names.specs.Scope.{Imported}
use Rattle.qtt_syntax.specs.View.{tree_of}
use Rattle.qtt_base.specs.declared.place.GlobalId.{GlobalId}
use Rattle.qtt_base.specs.declared.place.ModuleId.{ModuleId}
use Rattle.qtt_syntax.specs.Tree.{Tree}

-- the signature of an item: a chain of binders, with those in front that no text writes, and then those in braces
pub record Sig : Type 0 where
  pub braces : ℕ
  pub params : ℕ
  pub type : Tree

pub record Exports : Type 0 where
  pub home : ModuleId
  pub name : List ℕ
  pub items : List (List ℕ × GlobalId)
  pub sigs : List Sig

abbrev pub sig_of : sig_code.Sig → Sig
sig_of s = record { braces = s.braces; params = s.params; type = tree_of s.ty }

abbrev pub exports_of : exports_code.Exports → Exports
exports_of e = record { home = e.module; name = e.name; items = e.items.entries; sigs = map sig_of e.sigs.items }

-- what an import adds to a scope
abbrev pub export_of : exports_code.Exports → Imported
export_of e = record { name = e.name; items = e.items.entries }
