-- What the code knows of signatures.
use Rattle.std.specs.Prelude.{ℕ, List, map}
use Rattle.qtt_names.specs.Exports.{Exports, Sig}
use Rattle.qtt_implicit.specs.Known.{Known}
use Rattle.qtt_implicit.specs.OwnItems.{own_of}
use Rattle.qtt_implicit.specs.Signatures.{signature_of}
use Rattle.qtt_implicit.specs.declared.filling.known.Import.{Import}
use Rattle.qtt_implicit.specs.declared.filling.known.Known as known_code
use Rattle.qtt_implicit.specs.declared.filling.own_items.OwnItems.{OwnItems}

abbrev pub own_list : OwnItems → List (List ℕ × Sig)
own_list s = map own_of s.items.items

abbrev pub import_of : Import → Exports
import_of i = record {
  home = i.exports.now.«module»;
  name = i.exports.now.name;
  items = i.exports.now.items.entries;
  sigs = map signature_of i.sigs.items;
}

abbrev pub known_of : known_code.Known → Known
known_of k = record { home = k.home; own = own_list k.own; imports = map import_of k.imports.items }
