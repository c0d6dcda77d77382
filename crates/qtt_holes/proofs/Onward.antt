-- How the way to a hole goes on within a budget, as a call answers.
use Rattle.std.proofs.Common.{◌≡◌, ◌<◌, ℕ, List, [], ◌∷◌, length, Option, Some, None, Result, Ok, Err, MatchResult, IfOk, IsErrAnd, refl, sym, subst, arith}
use Rattle.qtt_base.specs.declared.place.Span.{Span}
use Rattle.qtt_usage.specs.declared.mult.Mult.{Mult}
use Rattle.qtt_syntax.specs.declared.expr.Local.{Local}
use Rattle.qtt_syntax.specs.declared.expr.Statement as statement_code
use Rattle.qtt_syntax.specs.Tree.{Tree, Annotation}
use Rattle.qtt_syntax.specs.Tree.Statement.{bind, local, run}
use Rattle.qtt_syntax.specs.Tree.Statements.{statement_and}
use Rattle.qtt_term.specs.Term.{Term}
use Rattle.qtt_term.specs.Signature.{Env}
use Rattle.qtt_term.specs.Judgement.{Part}
use Rattle.qtt_term.specs.Ask.{Ask, ◌>>=◌}
use Rattle.qtt_term.specs.Entries.{Entries, env}
use Rattle.qtt_term.specs.Scope.{Scope}
use Rattle.qtt_rules.specs.declared.errors.ElabError.{ElabError}
use Rattle.qtt_rules.specs.declared.errors.ElabError.TheVariants as error
use Rattle.qtt_rules.specs.Refusal.{Place}
use Rattle.qtt_rules.specs.Asks.{Asks}
use Rattle.qtt_bidi.specs.Answers.{Reaches, Refuses, Gives}
use Rattle.qtt_bidi.specs.Parts.{statement_trees}
use Rattle.qtt_bidi.proofs.Within.{on, on_done, here, later}
use Rattle.qtt_holes.specs.declared.walker.Found.{Found}
use Rattle.qtt_holes.specs.Calls.{Stands, Finds}
use Rattle.qtt_holes.specs.Walk.{Walked, way, statements_way, fit_before}
use Rattle.qtt_holes.specs.Ways.{let_then, bind_then}

-- the refusal that a question mark passes on
pub passed-on : (E : Env) (n : ℕ) (m : Asks Walked) (r : Result Found ElabError) (e : ElabError) →
    IsErrAnd r (λ y. y ≡ e) → Refuses E n m e → Finds E n m r
passed-on E n m (Ok f) e h x = absurd h
passed-on E n m (Err y) e h x = subst (λ z. Refuses E n m z) (sym h) x

-- an answer, and then what the last call finds
pub onward : (E : Env) (n : ℕ) {A : Type 0} (m : Asks A) (k : A → Asks Walked) (r : Result Found ElabError) {a : A} →
    Reaches E n m a → Finds E n (k a) r → Finds E n (m >>= k) r
onward E n m k (Ok f) h d = record { walked = d.walked; reaches = on k h d.reaches; stands = d.stands }
onward E n m k (Err e) h d = later E n m k e h d

pub found : (E : Env) (n : ℕ) (w : Walked) (r : Result Found ElabError) →
    MatchResult r (λ f. Stands w f) (λ e. e ≡ error.Memory) → Finds E n (Ask.done w) r
found E n w (Ok f) s = record { walked = w; reaches = on_done; stands = s }
found E n w (Err e) h = subst (λ e. Refuses E n (Ask.done w) e) (sym h) tt

closed : (E : Env) (n : ℕ) (m : Asks (Unit {0})) (w : Walked) (r : Result Found ElabError) →
    Gives E n m (λ f. tt) r → IfOk r (λ f. Stands w f) → Finds E n (m >>= (λ u. Ask.done w)) r
closed E n m w (Ok f) h s = record { walked = w; reaches = on (λ u. Ask.done w) h on_done; stands = s }
closed E n m w (Err e) h s = here E n m (λ u. Ask.done w) e h

-- a binder, behind which w was found
pub behind : (E : Env) (n : ℕ) (p : Part) (x : Option (List ℕ)) (q : Mult) (l : Place) (f : Found) (w v : Walked)
    (r : Result Found ElabError) → Stands w f → Gives E n (fit_before p x q f.uses l) (λ u. tt) r →
    IfOk r (λ f. Stands v f) → Finds E n (fit_before p x q w.uses l >>= (λ u. Ask.done v)) r
behind E n p x q l f w v r s h t =
    closed E n (fit_before p x q w.uses l) v r
    (subst (λ us. Gives E n (fit_before p x q us l) (λ u. tt) r) s.uses h) t

-- ---- lists that are the same
pub turned : (E : Env) (n : ℕ) (m w : Asks Walked) (r : Result Found ElabError) → w ≡ m → Finds E n m r →
    Finds E n w r
turned E n m w r e h = subst (λ z. Finds E n z r) (sym e) h

pub given-way : (G : Entries) (n : ℕ) (p : Part) (S : Scope) (ns : List (List ℕ)) (A : Term) (e t : Tree)
    (r : Result Found ElabError) → e ≡ t → Finds (env G) n (way G p S ns t A) r → Finds (env G) n (way G p S ns e A) r
given-way G n p S ns A e t r h x = subst (λ e. Finds (env G) n (way G p S ns e A) r) (sym h) x

-- ---- statements with others after them
none-after : {A : Type 0} → 0 < 0 → A
none-after h = let no : ⊥ = omega arith in absurd no

module _ (G : Entries) (p : Part) (S : Scope) (ns : List (List ℕ)) (s r : Span) (A : Term) where
  pub run-before : (e : Tree) (rest : List statement_code.Statement) → 0 < length rest →
      statements_way G p S ns s (statement_and (run e r) (statement_trees rest)) A ≡
      bind_then G p S ns s None e (statement_trees rest) A
  run-before e [] h = none-after h
  run-before e (t ∷ ts) h = refl

  pub bind-before : (x : Local) (e : Tree) (rest : List statement_code.Statement) → 0 < length rest →
      statements_way G p S ns s (statement_and (bind x e) (statement_trees rest)) A ≡
      bind_then G p S ns s (Some x) e (statement_trees rest) A
  bind-before x e [] h = none-after h
  bind-before x e (t ∷ ts) h = refl

  pub let-before : (q : Mult) (x : Local) (C : Annotation) (e : Tree) (rest : List statement_code.Statement) →
      0 < length rest →
      statements_way G p S ns s (statement_and (local q x C e r) (statement_trees rest)) A ≡
      let_then G p S ns q x C e (statement_trees rest) A
  let-before q x C e [] h = none-after h
  let-before q x C e (t ∷ ts) h = refl
