-- Signatures of imports.
use Rattle.std.proofs.Common.{◌≡◌, refl, List, ◌∷◌, true, slice_get}
use Rattle.std.specs.Prelude.{eqb}
use Rattle.qtt_base.specs.declared.place.GlobalId.{GlobalId}
use Rattle.qtt_names.specs.Exports.{Exports}
use Rattle.qtt_implicit.specs.Known.{exported}

pub found_first : (e : Exports) (es : List Exports) (id : GlobalId) → eqb e.home.0 id.«module».0 ≡ true →
    exported (e ∷ es) id ≡ slice_get e.sigs id.item
found_first e es id h = rw h refl
