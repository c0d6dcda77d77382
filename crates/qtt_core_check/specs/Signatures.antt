-- The types of literals, and what arguments of a signature ask.
use Rattle.std.specs.Prelude.{List}
use Rattle.qtt_prims.specs.declared.lit.Lit.{Lit}
use Rattle.qtt_prims.specs.declared.lit.Lit.TheVariants as literal
use Rattle.qtt_term.specs.View.{term, terms, side_by_side}
use Rattle.qtt_term.specs.Term.{Term, Terms}
use Rattle.qtt_term.specs.Substitution.{sub, push, closed}
use Rattle.qtt_term.specs.Signature.{Tele, Env, IntTy, StringTy}
use Rattle.qtt_term.specs.Judgement.{Part, Ctx}
use Rattle.qtt_term.specs.Ask.{Ask, ◌>>=◌}
use Rattle.qtt_term.specs.Infer.{Asks, Premise, wanted, Inferred, inferred, arguments}
use Rattle.qtt_term.specs.declared.term.Term as code_term
use Rattle.qtt_term.specs.declared.signatures.Signature as code
use Rattle.qtt_term.specs.Telescopes.{tele}

abbrev pub lit_type : Lit → Term
lit_type (literal.Int z) = IntTy
lit_type (literal.Text s) = StringTy

-- arguments, and a type under them at these
abbrev pub applies : Env → Part → Ctx → Premise → Tele → Term → Terms → Asks Inferred
applies E p Γ r Θ A ts = do
  u ← arguments E p Γ (wanted r Θ) closed ts
  Ask.done (inferred (sub (push ts closed) A) u)

-- the arguments of a signature, and its type at these
abbrev pub applied_to : Env → Part → Ctx → Premise → code.Signature → List code_term.Term → Asks Inferred
applied_to E p Γ r S ts = applies E p Γ r (tele S.arguments.items) (term S.ty) (side_by_side (terms ts))
