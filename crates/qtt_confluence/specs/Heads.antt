-- Heads, the way to them, and what of a head conversion keeps.
use Rattle.std.specs.Prelude.{◌≡◌, ℕ, zero, suc, Some, None}
use Rattle.qtt_term.specs.Term.{Form, Term, Terms, var, node, ε, size}
use Rattle.qtt_term.specs.Signature.{Env}
use Rattle.qtt_term.specs.Question.{head_step}

-- no contraction toward the head is left
abbrev pub IsHead : Env → Term → Type 0
IsHead E t = head_step E t ≡ None

-- so many contractions toward the head, one after the other
pub data Toward (E : Env) : ℕ → Term → Term → Type 0 where
  here : {t : Term} → Toward E zero t t
  onward : {n : ℕ} {t s r : Term} → head_step E t ≡ Some s → Toward E n s r → Toward E (suc n) t r

-- a variable's index, or a form with its fixed parts and the number of components
pub data Outline : Type 0 where
  variable : ℕ → Outline
  form : Form → ℕ → Outline

abbrev pub outline : Term → Outline
outline (var i) = Outline.variable i
outline (node F ts) = Outline.form F (size ts)

abbrev pub parts : Term → Terms
parts (var i) = ε
parts (node F ts) = ts
