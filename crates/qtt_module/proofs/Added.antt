-- A family and a signature that are judged and put into the environment.
use Rattle.std.proofs.Common.{◌≡◌, ℕ, List, [], None, option_map, Result, Ok, Err, IsErrAnd, inl, inr, sym, ap, subst, ◌∙◌}
use Rattle.std.specs.Prelude.{IfOk, IfErr, OnErr}
use mathlib.Core.Path.{ap₂}
use Rattle.qtt_base.specs.declared.place.GlobalId.{GlobalId}
use Rattle.qtt_syntax.specs.Tree.{Tree, Param, Con}
use Rattle.qtt_term.specs.declared.items.Definition as code_definition
use Rattle.qtt_term.specs.Keyed.{with_id, inserted}
use Rattle.qtt_term.specs.Items.{ConstructorEntry, FamilyEntry, DefinitionEntry, family_id, definition_id, definition_entry, signature_entry, with_constructors}
use Rattle.qtt_term.specs.Entries.{Entries, env, with_family, with_definition}
use Rattle.qtt_term.specs.View.{term}
use Rattle.qtt_term.proofs.Giving.{given-inserted}
use Rattle.qtt_rules.specs.declared.errors.ElabError.{ElabError}
use Rattle.qtt_rules.specs.declared.errors.ElabError.TheVariants as error
use Rattle.qtt_rules.specs.Asks.{Asks}
use Rattle.qtt_bidi.specs.Answers.{Reaches, Refuses, Gives}
use Rattle.qtt_module.specs.Additions.{Put, Puts, Left}
use Rattle.qtt_module.specs.Families.{Head, family_with, family}
use Rattle.qtt_module.specs.FamilyParts.{head, completed}
use Rattle.qtt_module.proofs.Together.{family-gives}

-- the refusal that a question mark passes on
pub puts-passed : {A : Type 0} (put : A → Entries → Entries) (G H : Entries) (n : ℕ) (m : Asks A)
    (r : Result (Unit {0}) ElabError) (e : ElabError) → IsErrAnd r (λ y. y ≡ e) → Refuses (env G) n m e →
    Puts put G H n m r
puts-passed put G H n m (Ok u) e h f = absurd h
puts-passed put G H n m (Err y) e h f = subst (λ z. Refuses (env G) n m z) (sym h) f

-- what stands where the questions of a family without constructors are refused, or memory runs out behind them
pub first-left : (G H : Entries) (n : ℕ) (m : Asks Head) (r : Result (Unit {0}) ElabError) (e : ElabError) →
    IsErrAnd r (λ y. y ≡ e) → Refuses (env G) n m e → H ≡ G → Left G H n m r
first-left G H n m (Ok u) e h f same = absurd h
first-left G H n m (Err y) e h f same = inl (subst (λ z. Refuses (env G) n m z) (sym h) f, same)

pub memory-left : (G H : Entries) (n : ℕ) (m : Asks Head) (r : Result (Unit {0}) ElabError) (e : ElabError) →
    IsErrAnd r (λ y. y ≡ e) → e ≡ error.Memory → H ≡ G → Left G H n m r
memory-left G H n m r e h memory same =
    first-left G H n m r e h (subst (λ z. Refuses (env G) n m z) (sym memory) tt) same

abbrev made_up : List FamilyEntry → List DefinitionEntry → Entries
made_up Fs ds = record { families = Fs; definitions = ds }

-- ---- a family F that stands without its constructors
module _ (G H : Entries) (F : Head) (bare : H ≡ with_family (family_with F []) G) (n : ℕ) (f : GlobalId)
    (M x : List ℕ) (ps : List Param) (t : Tree) (cs : List Con) (h : Reaches (env G) n (head G f M x ps t) F) where
  abbrev first : Asks Head
  first = head G f M x ps t

  pub bare-left : (r : Result (Unit {0}) ElabError) → Left G H n first r
  bare-left (Ok u) = tt
  bare-left (Err e) = inr (record { item = F; reaches = h; stands = bare })

  pub still-left : (K : Entries) (r : Result (Unit {0}) ElabError) → OnErr r (K ≡ H) → Left G K n first r
  still-left K (Ok u) e = tt
  still-left K (Err x) e = inr (record { item = F; reaches = h; stands = e ∙ bare })

  abbrev whole : Asks FamilyEntry
  whole = family G f M x ps t cs

  gives-so : (r : Result FamilyEntry ElabError) → Gives (env H) n (completed H F cs) (λ E. E) r →
      Gives (env G) n whole (λ E. E) r
  gives-so r g =
      family-gives G f M x ps t cs n F (λ E. E) r h
      (subst (λ H. Gives (env H) n (completed H F cs) (λ E. E) r) bare g)

  pub constructors-refused : (e : ElabError) → Refuses (env H) n (completed H F cs) e →
      Refuses (env G) n whole e
  constructors-refused e g = gives-so (Err e) g

  module _ (E : FamilyEntry) (ds : List ConstructorEntry) (K : Entries)
      (g : Reaches (env H) n (completed H F cs) E) (same : E ≡ family_with F ds)
      (absent : with_id family_id F.id G.families ≡ None) where
    given : made_up (with_constructors F.id ds H.families) H.definitions ≡ with_family E G
    given =
        ap (λ H. made_up (with_constructors F.id ds H.families) H.definitions) bare
        ∙ ap (λ Fs. made_up Fs G.definitions) (given-inserted (family_with F []) ds G.families absent)
        ∙ ap (λ E. made_up (inserted family_id E G.families) G.definitions) (sym same)

    pub family-puts : (r : Result (Unit {0}) ElabError) →
        IfOk r (λ u. K ≡ made_up (with_constructors F.id ds H.families) H.definitions) →
        IfErr r (λ e. e ≡ error.Memory) → Puts with_family G K n whole r
    family-puts (Ok u) ok memory = record { item = E; reaches = gives-so (Ok E) g; stands = ok ∙ given }
    family-puts (Err e) ok memory = subst (λ z. Refuses (env G) n whole z) (sym memory) tt

-- ---- a definition without a body
pub signature-put : (G K : Entries) (n : ℕ) (m : Asks DefinitionEntry) (d : code_definition.Definition) →
    Reaches (env G) n m (definition_entry d) → d.body ≡ None → K.families ≡ G.families →
    K.definitions ≡ inserted definition_id (signature_entry d.id d.name d.mult (term d.ty)) G.definitions →
    Put with_definition G K n m
signature-put G K n m d h none families definitions = record {
  item = definition_entry d;
  reaches = h;
  stands = ap₂ made_up families
      (definitions ∙ ap (λ b. inserted definition_id (record {
        id = d.id;
        name = d.name;
        definition = record { mult = d.mult; type = term d.ty; body = option_map term b };
      }) G.definitions) (sym none));
}
