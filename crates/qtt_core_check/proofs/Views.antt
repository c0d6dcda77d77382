-- What each form of the code stands for.
use Rattle.std.proofs.Common.{◌≡◌, ℕ, rules}
use Rattle.qtt_term.specs.declared.term.Term.{the_lemmas}
use Rattle.qtt_term.specs.declared.term.Term.TheVariants as form
use Rattle.qtt_term.specs.Term.{var, Sort}
use Rattle.qtt_term.specs.Signature.{HandleTy}
use Rattle.qtt_term.specs.View.{term}

pub sort-seen : (l : ℕ) → term (form.Sort l) ≡ Sort l
sort-seen l = search (rules, the_lemmas)

pub handle-seen : term form.HandleTy ≡ HandleTy
handle-seen = search (rules, the_lemmas)

pub var-seen : (i : ℕ) → term (form.Var i) ≡ var i
var-seen i = search (rules, the_lemmas)
