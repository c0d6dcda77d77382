-- A family is what stands without its constructors, and then these, over the environment in which it stands so.
use Rattle.std.proofs.Common.{◌≡◌, ℕ, List, [], Option, Some, None, Result, refl, sym, ◌∙◌}
use Rattle.std.specs.Prelude.{slice_get}
use Rattle.qtt_base.specs.declared.place.GlobalId.{GlobalId}
use Rattle.qtt_syntax.specs.Tree.{Tree, Param, Con}
use Rattle.qtt_syntax.specs.Tree.Con.{con}
use Rattle.qtt_term.specs.Ask.{◌>>=◌, within, NoReading}
use Rattle.qtt_term.specs.Items.{FamilyEntry}
use Rattle.qtt_term.specs.Entries.{Entries, env, with_family}
use Rattle.qtt_term.specs.Scope.{no_scope}
use Rattle.qtt_confluence.proofs.Definitions.{lists-read_definitions}
use Rattle.qtt_core_check.proofs.Continuing.{bind-assoc, bind-done, bind-along}
use Rattle.qtt_core_check.proofs.Unread.{both}
use Rattle.qtt_rules.specs.declared.errors.ElabError.{ElabError}
use Rattle.qtt_rules.specs.Asks.{Asks}
use Rattle.qtt_positive.specs.FirstBad.{first_bad}
use Rattle.qtt_bidi.specs.Answers.{Reaches, Refuses, Gives}
use Rattle.qtt_bidi.proofs.Within.{here, tail, same, same-refusal}
use Rattle.qtt_module.specs.Families.{Head, heading, pieces, end_of, parameters, behind_indices, indices, level, family_with, refuse_bad, none_bad, family}
use Rattle.qtt_module.specs.FamilyParts.{head, completed}
use Rattle.qtt_module.proofs.Alike.{gives-alike}
use Rattle.qtt_module.proofs.Unread.{constructors_unread}

-- ---- neither positivity nor constructors ask for a reading
refused-unread : (o : Option Con) (k : ℕ) → NoReading (refuse_bad o k)
refused-unread None k = tt
refused-unread (Some (con n t s)) k = tt

bad-unread : (cs : List Con) (o : Option (ℕ × ℕ)) → NoReading (none_bad cs o)
bad-unread cs None = tt
bad-unread cs (Some x) = refused-unread (slice_get cs x.0) x.1

completed-unread : (G : Entries) (F : Head) (cs : List Con) → NoReading (completed G F cs)
completed-unread G F cs =
    both _ _ (constructors_unread G F 0 cs)
    (λ ds. both _ _ (bad-unread cs (first_bad F.id (family_with F ds).family)) (λ u. tt))

module _ (G : Entries) (f : GlobalId) (M x : List ℕ) (ps : List Param) (t : Tree) (cs : List Con) where
  -- the environment in which the family stands without its constructors
  abbrev pub beside : Head → Entries
  beside F = with_family (family_with F []) G

  abbrev rest : Head → Asks FamilyEntry
  rest F = completed (beside F) F cs

  pub family-is : family G f M x ps t cs ≡ head G f M x ps t >>= rest
  family-is =
      sym (bind-assoc (parameters G x no_scope ps) _ rest
      ∙ bind-along (parameters G x no_scope ps) _ _
      (λ P. bind-assoc (level G (behind_indices (pieces t) P.scope) (end_of t)) _ rest
      ∙ bind-along (level G (behind_indices (pieces t) P.scope) (end_of t)) _ _
      (λ l. bind-assoc (indices G x P.scope (pieces t)) _ rest
      ∙ bind-along (indices G x P.scope (pieces t)) _ _ (λ Ts. bind-done (heading f M x P Ts l) rest))))

  pub head-refuses : (n : ℕ) (e : ElabError) → Refuses (env G) n (head G f M x ps t) e →
      Refuses (env G) n (family G f M x ps t cs) e
  head-refuses n e h =
      same-refusal (env G) n (head G f M x ps t >>= rest) (family G f M x ps t cs) e family-is
      (here (env G) n (head G f M x ps t) rest e h)

  -- what is asked beside the family has the same answers without it
  asked-alike : (n : ℕ) (F : Head) → within (env G) n (rest F) ≡ within (env (beside F)) n (rest F)
  asked-alike n F =
      (lists-read_definitions _ _ _ (env G) (env (beside F)) (λ d. refl)).within n (rest F)
      (completed-unread (beside F) F cs)

  pub family-gives : (n : ℕ) (F : Head) {X : Type 0} (view : X → FamilyEntry) (r : Result X ElabError) →
      Reaches (env G) n (head G f M x ps t) F → Gives (env (beside F)) n (rest F) view r →
      Gives (env G) n (family G f M x ps t cs) view r
  family-gives n F view r h g =
      same (env G) n (head G f M x ps t >>= rest) (family G f M x ps t cs) view r family-is
      (tail (env G) n (head G f M x ps t) rest view r h
      (gives-alike (env G) (env (beside F)) n (rest F) (rest F) (asked-alike n F) view r g))
