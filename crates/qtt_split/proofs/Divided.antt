-- The division of a variable, question by question.
use Rattle.std.proofs.Common.{◌≡◌, ◌∙◌, ℕ, zero, suc, Bool, true, false, List, [], ◌∷◌, length, take, drop, Option, Some, None, refl, ap}
use Rattle.qtt_term.specs.declared.term.Term as code
use Rattle.qtt_term.specs.Term.{Term, Terms, ◌▸◌, skip}
use Rattle.qtt_term.specs.Forms.{front}
use Rattle.qtt_term.specs.View.{term}
use Rattle.qtt_term.specs.Signature.{Env}
use Rattle.qtt_term.specs.Judgement.{mult_at, type_at}
use Rattle.qtt_term.specs.Infer.{usable}
use Rattle.qtt_term.specs.Ask.{Ask, ◌>>=◌, within}
use Rattle.qtt_term.specs.Entries.{env}
use Rattle.qtt_term.specs.Premises as premises
use Rattle.qtt_rules.specs.declared.errors.ElabError.{ElabError}
use Rattle.qtt_rules.specs.Refusal.{Cause}
use Rattle.qtt_rules.specs.Asks.{Asks, need, found, head_of}
use Rattle.qtt_match.specs.Constructors.{named_constructor}
use Rattle.qtt_unify.specs.Targets.{readings}
use Rattle.qtt_unify.specs.View.{all_terms}
use Rattle.qtt_split.specs.Answers.{Reaches, Fails, Refuses}
use Rattle.qtt_split.specs.Branch.{label_at}
use Rattle.qtt_split.specs.Node.{Node, Examined}
use Rattle.qtt_split.specs.Split.{Group, Division, FamilyAt, family_of, match_mult, division}
use Rattle.qtt_split.specs.Tests.{Test, at}
use Rattle.qtt_split.proofs.Within.{on, on_done, past, here, holds, refuses-alike}

module _ (E : Env) (n : ℕ) (G : Group) (N : Node) (x : Examined) where
  abbrev pub type_split : Term
  type_split = type_at N.context x.variable

  abbrev pub head_asked : Asks Term
  head_asked = head_of (at x.span Test.of_family) (length N.context) type_split

  abbrev pub family_at_head : Term → Option FamilyAt
  family_at_head h = family_of (env G.globals) (named_constructor G.globals.families x.constructor.target) h

  abbrev pub may_use : Bool
  may_use = usable G.part (mult_at N.context x.variable)

  abbrev pub readings_asked : FamilyAt → Asks Terms
  readings_asked F = readings (at x.span Test.equations) (length N.context) F.indices

  abbrev pub divided : FamilyAt → Terms → Division
  divided F ts = record {
    span = x.span;
    mult = match_mult G.part (mult_at N.context x.variable);
    family = F.family;
    over = record {
      context = N.context;
      variable = x.variable;
      params = F.params;
      indices = F.indices;
      targets = ts;
    };
  }

  abbrev no_family : Cause
  no_family = Cause.not_a_family (length N.context) type_split

  abbrev erased : Cause
  erased = Cause.erased_match (label_at N.labels x.variable)

  abbrev read : FamilyAt → Asks Division
  read F = readings_asked F >>= (λ ts. Ask.done (divided F ts))

  abbrev use_it : FamilyAt → Asks Division
  use_it F = need may_use erased (at x.span Test.usable) >>= (λ ok. read F)

  abbrev choose : Term → Asks Division
  choose h = found (family_at_head h) no_family (at x.span Test.of_family) >>= use_it

  past-head : (h : Term) → Reaches E n head_asked h → within E n (division G N x) ≡ within E n (choose h)
  unfolding division
  past-head h r = past E n head_asked choose r

  past-family : (h : Term) (F : FamilyAt) → family_at_head h ≡ Some F → within E n (choose h) ≡ within E n (use_it F)
  past-family h F e =
      ap (λ o. within E n (found o no_family (at x.span Test.of_family) >>= use_it)) e ∙
      past E n (found (Some F) no_family (at x.span Test.of_family)) use_it {a = F} on_done

  past-usable : (F : FamilyAt) → may_use ≡ true → within E n (use_it F) ≡ within E n (read F)
  past-usable F u = past E n (need may_use erased (at x.span Test.usable)) (λ ok. read F) (holds _ _ _ u)

  pub head-spent : (e : ElabError) → Refuses E n head_asked e → Refuses E n (division G N x) e
  unfolding division
  head-spent e r = here E n head_asked choose e r

  pub not-a-family : (h : Term) → Reaches E n head_asked h → family_at_head h ≡ None →
      Fails E n (division G N x) no_family (at x.span Test.of_family)
  unfolding within ◌>>=◌
  not-a-family h r e = record {
    is =
        past-head h r ∙ ap (λ o. within E n (found o no_family (at x.span Test.of_family) >>= use_it)) e;
  }

  pub not-usable : (h : Term) (F : FamilyAt) → Reaches E n head_asked h → family_at_head h ≡ Some F →
      may_use ≡ false → Fails E n (division G N x) erased (at x.span Test.usable)
  unfolding within ◌>>=◌ premises.need
  not-usable h F r e u = record {
    is =
        past-head h r ∙ past-family h F e ∙
        ap (λ b. within E n (need b erased (at x.span Test.usable) >>= (λ ok. read F))) u;
  }

  pub reading-spent : (h : Term) (F : FamilyAt) (e : ElabError) → Reaches E n head_asked h →
      family_at_head h ≡ Some F → may_use ≡ true → Refuses E n (readings_asked F) e → Refuses E n (division G N x) e
  reading-spent h F e r f u s =
      refuses-alike E n (read F) (division G N x) e (past-head h r ∙ past-family h F f ∙ past-usable F u)
      (here E n (readings_asked F) (λ ts. Ask.done (divided F ts)) e s)

  pub all-divided : (h : Term) (F : FamilyAt) (ts : Terms) → Reaches E n head_asked h → family_at_head h ≡ Some F →
      may_use ≡ true → Reaches E n (readings_asked F) ts → Reaches E n (division G N x) (divided F ts)
  all-divided h F ts r f u s = record {
    is =
        past-head h r ∙ past-family h F f ∙ past-usable F u ∙
        (on {E = E} {n = n} {m = readings_asked F} (λ us. Ask.done (divided F us)) s on_done).is;
  }

-- ---- the arguments of a family
pub front-taken : (k : ℕ) (ts : List code.Term) → all_terms (take k ts) ≡ front k (all_terms ts)
front-taken zero ts = refl
front-taken (suc k) [] = refl
front-taken (suc k) (t ∷ ts) = ap (λ us. term t ▸ us) (front-taken k ts)

pub skip-dropped : (k : ℕ) (ts : List code.Term) → all_terms (drop k ts) ≡ skip k (all_terms ts)
skip-dropped zero ts = refl
skip-dropped (suc k) [] = refl
skip-dropped (suc k) (t ∷ ts) = skip-dropped k ts
