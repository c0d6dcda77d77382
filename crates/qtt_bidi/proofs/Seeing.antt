-- What forms of the code stand for.
use Rattle.std.proofs.Common.{◌≡◌, rules}
use Rattle.qtt_base.specs.declared.place.GlobalId.{GlobalId}
use Rattle.qtt_term.specs.declared.term.Term.{the_lemmas}
use Rattle.qtt_term.specs.declared.term.Term.TheVariants as form
use Rattle.qtt_term.specs.Term.{Def}
use Rattle.qtt_term.specs.View.{term}

pub def-seen : (d : GlobalId) → term (form.Def d) ≡ Def d
def-seen d = search (rules, the_lemmas)
