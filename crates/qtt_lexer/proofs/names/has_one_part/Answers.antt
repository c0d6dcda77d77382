use Rattle.std.proofs.Common.{not, ◌==◌, ℕ, ap, ◌∙◌, List}
use Rattle.std.specs.List.{list_any}
use Rattle.qtt_lexer.proofs.NameParts.{simple_without_dot}
use Rattle.qtt_lexer.proofs.names.has_one_part.Goals as goal

pub returns : goal.returns
returns c =
    ap not c.contains.ensures.value
    ∙ ap (λ (name : List ℕ). not (list_any (λ b. b == 46) name)) c.as_bytes.ensures.value
    ∙ simple_without_dot c.args.name.now
