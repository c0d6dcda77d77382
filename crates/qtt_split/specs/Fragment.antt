-- A judgement of expressions for the examples: names, numbers, applications, constructors, families and Int. The whole
-- table of rules stands elsewhere.
use Rattle.std.specs.Prelude.{ℕ, suc, cond, eqb, List, ◌∷◌, ◌++◌, length, Option, Some, None, slice_get}
use Rattle.qtt_base.specs.declared.place.Span.{Span}
use Rattle.qtt_base.specs.declared.place.GlobalId.{GlobalId}
use Rattle.qtt_usage.specs.declared.mult.Mult.{Mult}
use Rattle.qtt_usage.specs.Usage.{usage_sum, usage_scale, no_usage}
use Rattle.qtt_syntax.specs.declared.expr.Target.{Target}
use Rattle.qtt_syntax.specs.declared.expr.Target.TheVariants.{Unknown, Local, Global}
use Rattle.qtt_syntax.specs.Tree.{Tree, Arguments}
use Rattle.qtt_syntax.specs.Tree.Tree.{name, number, apply}
use Rattle.qtt_syntax.specs.Tree.Argument.{argument}
use Rattle.qtt_syntax.specs.Tree.Arguments.{no_argument, argument_and}
use Rattle.qtt_term.specs.declared.term.ConId.{ConId}
use Rattle.qtt_term.specs.Term.{Form, Term, Terms, var, node, ε, ◌▸◌, ◌+++◌, Sort, App, Fam, Def, IntLit, same_id}
use Rattle.qtt_term.specs.Substitution.{sub, cons, push, inst, closed}
use Rattle.qtt_term.specs.Signature.{Tele, definition_at, family_at, con_sig, fam_at, prim_id, IntTy}
use Rattle.qtt_term.specs.Judgement.{Part, under}
use Rattle.qtt_term.specs.Infer.{Inferred, infer, use_at}
use Rattle.qtt_term.specs.Entries.{Entries, env}
use Rattle.qtt_term.specs.Ask.{Ask, ◌>>=◌, asked_at}
use Rattle.qtt_term.specs.Forms.{as_function}
use Rattle.qtt_term.specs.Scope.{Scope, depth}
use Rattle.qtt_rules.specs.Refusal.{Cause, Place, refused}
use Rattle.qtt_rules.specs.Asks.{Asks, need, found, head_of, alike}
use Rattle.qtt_rules.specs.Judged.{Judged, judged, Judges, Mode}
use Rattle.qtt_match.specs.Constructors.{named_constructor}
use Rattle.qtt_split.specs.Split.{family_of}
use Rattle.qtt_term.specs.declared.rule.Rule.TheVariants as rule

abbrev pub nowhere : Span
nowhere = record { line = 0; col = 0; len = 0 }

abbrev pub span_of : Tree → Span
span_of (name n) = n.span
span_of (number z s) = s
span_of (apply f xs s) = s
span_of _ = nowhere

abbrev pub rule_at : Span → Place
rule_at s = record { span = s; rule = rule.Switch; number = 1 }

-- what is synthesised is of the expected type
abbrev pub switched : Mode → Span → ℕ → Judged → Asks Judged
switched Mode.synth s n j = Ask.done j
switched (Mode.check A) s n j = do
  same ← alike (rule_at s) n j.type A
  u ← need same (Cause.mismatch n A j.type) (rule_at s)
  Ask.done (judged A j.core j.uses)

-- a local name stands for a term: a variable, or another, whose use is inferred
abbrev pub stands_for : Entries → Part → Scope → Span → Term → Term → Asks Judged
stands_for K p S s (var i) A = Ask.done (judged A (var i) (use_at p (depth S) i))
stands_for K p S s t A =
    asked_at (rule_at s) (infer (env K) p S.vars t) (λ (j : Inferred). Ask.done (judged A t j.uses))
    (λ f. Ask.fail (refused (Cause.erased_use (depth S) t) (rule_at s)))

abbrev pub of_name : Entries → Part → Scope → Span → Target → Asks Judged
of_name K p S s Unknown = Ask.fail (refused Cause.needs_type (rule_at s))
of_name K p S s (Local i) = do
  e ← found (slice_get S.names i) Cause.needs_type (rule_at s)
  stands_for K p S s e.0 e.1
of_name K p S s (Global g) = Ask.done
    (cond (same_id g (prim_id 0))
    (judged (Sort 0) IntTy (no_usage (depth S)))
    (judged (definition_at (env K) g).type (Def g) (no_usage (depth S))))

abbrev pub family_named : Entries → Target → Option GlobalId
family_named K (Global g) = elim ((env K).family g) [ None ↦ None | Some F ↦ Some g ]
family_named K _ = None

pub record Fields : Type 0 where
  pub terms : Terms
  pub uses : List Mult

abbrev pub expected_head : Mode → Span → ℕ → Asks Term
expected_head Mode.synth s n = Ask.fail (refused Cause.needs_type (rule_at s))
expected_head (Mode.check A) s n = head_of (rule_at s) n A

abbrev pub expected_type : Mode → Term
expected_type Mode.synth = Sort 0
expected_type (Mode.check A) = A

abbrev pub no_fields : Scope → Fields
no_fields S = record { terms = ε; uses = no_usage (depth S) }

abbrev pub count : Arguments → ℕ
count no_argument = 0
count (argument_and a xs) = suc (count xs)

-- a constructor with so many arguments against its family; `given` judges its fields
abbrev pub constructed : Entries → Scope → ConId → Span → Mode → ℕ → (Tele → (ℕ → Term) → Asks Fields) → Asks Judged
constructed K S c s m k given = do
  h ← expected_head m s (depth S)
  d ← found (family_of (env K) (Some c) h) (Cause.not_a_family (depth S) (expected_type m)) (rule_at s)
  let F = family_at (env K) c.family
  let ps = d.params
  D ← found (slice_get F.constructors c.place) Cause.needs_type (rule_at s)
  u ← need (eqb (length D.fields) k) (Cause.wrong_arity (length D.fields) k) (rule_at s)
  fs ← given D.fields (push ps closed)
  switched m s (depth S)
      (judged (sub (push (ps +++ fs.terms) closed) (con_sig c.family (length F.params) c.place D).result)
      (node (Form.con c.family c.place (length F.params)) (ps +++ fs.terms)) fs.uses)

-- a family with all its arguments
abbrev pub formed : Entries → Scope → GlobalId → Span → Mode → (Tele → (ℕ → Term) → Asks Fields) → Asks Judged
formed K S f s m given = do
  ts ← given ((fam_at (env K) f).params ++ (fam_at (env K) f).indices) closed
  switched m s (depth S) (judged (Sort (fam_at (env K) f).level) (Fam f ts.terms) (no_usage (depth S)))

abbrev mutual
  pub elaborated : Entries → Part → Scope → Tree → Mode → Asks Judged
  elaborated K p S (name n) m = elim (named_constructor K.families n.target) [
    | None ↦ elim (family_named K n.target) [
      | None ↦ (do
        j ← of_name K p S n.span n.target
        switched m n.span (depth S) j)
      | Some f ↦ formed K S f n.span m (λ Θ σ. Ask.done (no_fields S))
    ]
    | Some c ↦ constructed K S c n.span m 0 (λ Θ σ. Ask.done (no_fields S))
  ]
  elaborated K p S (number z s) m = switched m s (depth S) (judged IntTy (IntLit z) (no_usage (depth S)))
  elaborated K p S (apply (name n) xs s) m = elim (named_constructor K.families n.target) [
    | None ↦ elim (family_named K n.target) [
      | None ↦ (do
        f ← of_name K p S n.span n.target
        j ← applied K p S s xs f
        switched m s (depth S) j)
      | Some f ↦ formed K S f s m (λ Θ σ. fields_given K Part.erased S s Θ σ xs)
    ]
    | Some c ↦ constructed K S c s m (count xs) (λ Θ σ. fields_given K p S s Θ σ xs)
  ]
  elaborated K p S e m = Ask.fail (refused Cause.needs_type (rule_at (span_of e)))

  pub applied : Entries → Part → Scope → Span → Arguments → Judged → Asks Judged
  applied K p S s no_argument f = Ask.done f
  applied K p S s (argument_and (argument k e) xs) f = do
    h ← head_of (rule_at s) (depth S) f.type
    F ← found (as_function h) (Cause.not_a_function (depth S) f.type) (rule_at s)
    a ← elaborated K (under p F.mult) S e (Mode.check F.domain)
    applied K p S s xs (judged (inst F.codomain a.core) (App F.mult f.core a.core)
        (usage_sum f.uses (usage_scale F.mult a.uses)))

  pub fields_given : Entries → Part → Scope → Span → Tele → (ℕ → Term) → Arguments → Asks Fields
  fields_given K p S s (b ∷ Θ) σ (argument_and (argument k e) xs) = do
    a ← elaborated K (under p b.0) S e (Mode.check (sub σ b.1))
    fs ← fields_given K p S s Θ (cons a.core σ) xs
    Ask.done (record { terms = a.core ▸ fs.terms; uses = usage_sum (usage_scale b.0 a.uses) fs.uses })
  fields_given K p S s _ σ xs = Ask.done (no_fields S)

abbrev pub fragment : Entries → Judges
fragment K p S m e = elaborated K p S e m
