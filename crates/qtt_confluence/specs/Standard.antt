-- Standard contraction, and the heads that it finds.
use Rattle.std.specs.Prelude.{◌≡◌, ℕ}
use Rattle.qtt_term.specs.Term.{Form, Term, Terms, var, node, ε, ◌▸◌}
use Rattle.qtt_term.specs.Signature.{Env}
use Rattle.qtt_term.specs.Ask.{HeadIs}
use Rattle.qtt_confluence.specs.Injective.{Convs}
use Rattle.qtt_confluence.specs.Heads.{Toward, outline, parts}

-- contractions toward the head first, and then those of its components, each of them standard again
mutual
  pub data Standard (E : Env) : Term → Term → Type 0 where
    at_variable : {n i : ℕ} {t : Term} → Toward E n t (var i) → Standard E t (var i)
    at_form : {n : ℕ} {F : Form} {t : Term} {ts ss : Terms} → Toward E n t (node F ts) → Standards E ts ss →
        Standard E t (node F ss)

  pub data Standards (E : Env) : Terms → Terms → Type 0 where
    none : Standards E ε ε
    more : {t s : Term} {ts ss : Terms} → Standard E t s → Standards E ts ss → Standards E (t ▸ ts) (s ▸ ss)

-- t has a head, which has the outline of s, and components convertible to those of s
pub record HasHeadLike (E : Env) (t s : Term) : Type 0 where
  pub head : Term
  pub is : HeadIs E t head
  pub outlines : outline head ≡ outline s
  pub components : Convs E (parts head) (parts s)
