-- Arguments, each behind the values for the binders before its own, within a budget.
use Rattle.std.proofs.Common.{◌≡◌, ℕ, suc, ◌+◌, List, [], ◌∷◌, ◌++◌, length, refl, sym, ap, subst, ◌∙◌}
use Rattle.std.proofs.lemmas.List.{map-append}
use mathlib.Core.Path.{fun_ext}
use Rattle.qtt_usage.specs.declared.mult.Mult.{Mult}
use Rattle.qtt_usage.specs.Usage.{usage_sum, usage_scale}
use Rattle.qtt_syntax.specs.Tree as tree
use Rattle.qtt_syntax.specs.Tree.{Argument, Arguments}
use Rattle.qtt_syntax.specs.Tree.Argument.{argument}
use Rattle.qtt_syntax.specs.Tree.Arguments.{no_argument, argument_and}
use Rattle.qtt_term.specs.declared.term.Term as code
use Rattle.qtt_term.specs.Term.{Term, Terms, ε, ◌▸◌, ◌+++◌}
use Rattle.qtt_term.specs.Substitution.{sub, cons}
use Rattle.qtt_term.specs.Signature.{Tele}
use Rattle.qtt_term.specs.Judgement.{Part, under}
use Rattle.qtt_term.specs.Entries.{Entries, env}
use Rattle.qtt_term.specs.Scope.{Scope}
use Rattle.qtt_term.specs.Ask.{Ask, ◌>>=◌}
use Rattle.qtt_term.specs.Telescopes.{filled}
use Rattle.qtt_term.specs.View.{term, terms, side_by_side}
use Rattle.qtt_term.proofs.Binders.{side-none}
use Rattle.qtt_core_check.proofs.ArgumentLists as lists
use Rattle.qtt_rules.specs.declared.errors.ElabError.{ElabError}
use Rattle.qtt_rules.specs.Asks.{Asks}
use Rattle.qtt_rules.specs.Judged.{Judged, Mode}
use Rattle.qtt_bidi.specs.Answers.{Reaches, Refuses}
use Rattle.qtt_bidi.specs.Calls.{Filled}
use Rattle.qtt_bidi.specs.Elaboration.{Given, given, judge, arguments, unused, none_written, argument_count}
use Rattle.qtt_bidi.specs.Ends.{expression, written}
use Rattle.qtt_bidi.proofs.Within.{on, on_done, here, later}

pub count-written : (es : List Argument) → argument_count (tree.arguments es) ≡ length es
count-written [] = refl
count-written (e ∷ es) = ap suc (count-written es)

-- one value more
pub filled-one : (vs : List code.Term) (t : code.Term) → filled (vs ++ t ∷ []) ≡ cons (term t) (filled vs)
filled-one vs t = lists.filled-more vs (vs ++ t ∷ []) (t ∷ []) (map-append term vs (t ∷ []))

joined-more : (ts : List Term) (t : Term) (ss : Terms) →
    side_by_side (ts ++ t ∷ []) +++ ss ≡ side_by_side ts +++ (t ▸ ss)
joined-more [] t ss = refl
joined-more (u ∷ ts) t ss = ap (λ ts. u ▸ ts) (joined-more ts t ss)

module _ (G : Entries) (p : Part) (S : Scope) where
  no-arguments : (Θ : Tele) (σ : ℕ → Term) → arguments G p S Θ σ no_argument ≡ Ask.done (given ε (unused S))
  no-arguments [] σ = refl
  no-arguments (b ∷ Θ) σ = refl

  -- a name without arguments
  pub none-written : written G p S no_argument ≡ none_written S
  none-written = ap (λ c. record { count = 0; checked = c }) (fun_ext λ Θ. fun_ext λ σ. no-arguments Θ σ)

  -- ---- one argument
  abbrev first-asks : Mult × Term → (ℕ → Term) → Argument → Asks Judged
  first-asks b σ a = judge G (under p b.0) S (Mode.check (sub σ b.1)) (expression a)

  abbrev rest-asks : Mult × Term → Tele → (ℕ → Term) → Arguments → Judged → Asks Given
  rest-asks b Θ σ es a =
      arguments G p S Θ (cons a.core σ) es
      >>= (λ g. Ask.done (given (a.core ▸ g.cores) (usage_sum (usage_scale b.0 a.uses) g.uses)))

  one-more : (b : Mult × Term) (Θ : Tele) (σ : ℕ → Term) (a : Argument) (es : Arguments) →
      arguments G p S (b ∷ Θ) σ (argument_and a es) ≡ first-asks b σ a >>= rest-asks b Θ σ es
  one-more b Θ σ (argument k e) es = refl

  module _ (n : ℕ) where
    pub filled-none : (Θ : Tele) (σ : ℕ → Term) (es : Arguments) (vs : List code.Term) (us : List Mult) →
        us ≡ unused S → arguments G p S Θ σ es ≡ Ask.done (given ε (unused S)) →
        Filled (env G) n (arguments G p S Θ σ es) vs vs us
    filled-none Θ σ es vs us e d = record {
      given = given ε (unused S);
      reaches = subst (λ m. Reaches (env G) n m (given ε (unused S))) (sym d) on_done;
      cores = sym (side-none (terms vs));
      uses = e;
    }

    pub filled-empty : (σ : ℕ → Term) (es : Arguments) (vs : List code.Term) (us : List Mult) →
        us ≡ unused S → Filled (env G) n (arguments G p S [] σ es) vs vs us
    filled-empty σ es vs us e = filled-none [] σ es vs us e refl

    pub filled-ended : (Θ : Tele) (σ : ℕ → Term) (vs : List code.Term) (us : List Mult) →
        us ≡ unused S → Filled (env G) n (arguments G p S Θ σ no_argument) vs vs us
    filled-ended Θ σ vs us e = filled-none Θ σ no_argument vs us e (no-arguments Θ σ)

    module _ (b : Mult × Term) (Θ : Tele) (x : Argument) (es : Arguments) (vs : List code.Term) where
      pub first-refused : (e : ElabError) → Refuses (env G) n (first-asks b (filled vs) x) e →
          Refuses (env G) n (arguments G p S (b ∷ Θ) (filled vs) (argument_and x es)) e
      first-refused e h =
          subst (λ m. Refuses (env G) n m e) (sym (one-more b Θ (filled vs) x es))
          (here (env G) n (first-asks b (filled vs) x) (rest-asks b Θ (filled vs) es) e h)

      module _ (a : Judged) (t : code.Term) (same : term t ≡ a.core)
          (h : Reaches (env G) n (first-asks b (filled vs) x) a) where
        next : arguments G p S Θ (filled (vs ++ t ∷ [])) es ≡ arguments G p S Θ (cons a.core (filled vs)) es
        next = ap (λ σ. arguments G p S Θ σ es) (filled-one vs t ∙ ap (λ u. cons u (filled vs)) same)

        pub rest-refused : (e : ElabError) →
            Refuses (env G) n (arguments G p S Θ (filled (vs ++ t ∷ [])) es) e →
            Refuses (env G) n (arguments G p S (b ∷ Θ) (filled vs) (argument_and x es)) e
        rest-refused e r =
            subst (λ m. Refuses (env G) n m e) (sym (one-more b Θ (filled vs) x es))
            (later (env G) n (first-asks b (filled vs) x) (rest-asks b Θ (filled vs) es) e h
            (here (env G) n (arguments G p S Θ (cons a.core (filled vs)) es) _ e
            (subst (λ m. Refuses (env G) n m e) next r)))

        abbrev all-given : Given → Given
        all-given g = given (a.core ▸ g.cores) (usage_sum (usage_scale b.0 a.uses) g.uses)

        pub filled-more : (ws : List code.Term) (us more : List Mult) →
            us ≡ usage_sum (usage_scale b.0 a.uses) more →
            Filled (env G) n (arguments G p S Θ (filled (vs ++ t ∷ [])) es) (vs ++ t ∷ []) ws more →
            Filled (env G) n (arguments G p S (b ∷ Θ) (filled vs) (argument_and x es)) vs ws us
        filled-more ws us more e r = record {
          given = all-given r.given;
          reaches =
              subst (λ m. Reaches (env G) n m (all-given r.given)) (sym (one-more b Θ (filled vs) x es))
              (on (rest-asks b Θ (filled vs) es) h
              (on _ (subst (λ m. Reaches (env G) n m r.given) next r.reaches) on_done));
          cores =
              r.cores ∙ ap (λ ts. side_by_side ts +++ r.given.cores) (map-append term vs (t ∷ []))
              ∙ joined-more (terms vs) (term t) r.given.cores
              ∙ ap (λ u. side_by_side (terms vs) +++ (u ▸ r.given.cores)) same;
          uses = e ∙ ap (λ w. usage_sum (usage_scale b.0 a.uses) w) r.uses;
        }
