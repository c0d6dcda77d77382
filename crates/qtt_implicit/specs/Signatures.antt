-- What signatures in code stand for.
use Rattle.qtt_names.specs.Exports.{Sig}
use Rattle.qtt_implicit.specs.Nodes.{node_tree}
use Rattle.qtt_implicit.specs.declared.filling.signature.Signature.{Signature}

abbrev pub signature_of : Signature → Sig
signature_of s = record { braces = s.braces; params = s.params; type = node_tree s.ty.now }
