-- Faults, kind by kind; and the worked ones, computed.
use Rattle.std.proofs.Common.{◌≡◌, ◌==◌, ℕ, Bool, true, false, cond, List, Option, Some, None, option_map, refl, sym, ap, ◌∙◌}
use Rattle.std.proofs.lemmas.Bool.{eqb-true}
use Rattle.std.specs.Str.{chars, is_utf8}
use lib.Utf8.{encode}
use Rattle.qtt_term.specs.Entries.{Entries}
use Rattle.qtt_rules.specs.Refusal.{Cause}
use Rattle.qtt_diag.specs.Fault.{character_spelled, name_spelled, quantity_named, bare_detail, fault_detail, FaultsKeepTheirKinds, FaultRows}
use Rattle.qtt_diag.specs.Kept.{Detail}
use Rattle.qtt_diag.specs.Messages.{told}

module _ (N : Entries) (kind : ℕ) where
  -- what is kept, if anything, is of this kind
  abbrev Keeps : Option Detail → Type 0
  Keeps o = (d : Detail) → o ≡ Some d → (told N d).kind ≡ kind

  none : Keeps None
  none d e = absurd cc

  one : (k : ℕ) (x : Detail) → (told N x).kind ≡ k → kind ≡ k → Keeps (Some x)
  one k x e is d same =
      let kept : x ≡ d = cc in
      ap (λ (y : Detail). (told N y).kind) (sym kept) ∙ e ∙ sym is

  mapped : {A : Type 0} (k : ℕ) (f : A → Detail) → ((a : A) → (told N (f a)).kind ≡ k) → (o : Option A) → kind ≡ k →
      Keeps (option_map f o)
  mapped k f e None is = none
  mapped k f e (Some a) is = one k (f a) (e a) is

  either : (k : ℕ) (b : Bool) (o rest : Option Detail) → (kind == k) ≡ b → (kind ≡ k → Keeps o) → Keeps rest →
      Keeps (cond b o rest)
  either k true o rest e f g = f (eqb-true kind k e)
  either k false o rest e f g = g

  test : (k : ℕ) (o rest : Option Detail) → (kind ≡ k → Keeps o) → Keeps rest → Keeps (cond (kind == k) o rest)
  test k o rest f g = either k (kind == k) o rest refl f g

  bare_kept : Keeps (bare_detail kind)
  bare_kept =
      test 1 _ _ (one 1 Detail.not_utf8 refl)
      (test 3 _ _ (one 3 Detail.open_text refl)
      (test 4 _ _ (one 4 Detail.open_comment refl)
      (test 5 _ _ (one 5 Detail.number_too_wide refl)
      (test 6 _ _ (one 6 Detail.name_too_long refl)
      (test 7 _ _ (one 7 Detail.bad_indent refl) (test 9 _ _ (one 9 Detail.too_deep refl) none))))))

  kept : (word : List ℕ) (count : ℕ) → Keeps (fault_detail kind word count)
  kept word count =
      test 2 _ _ (mapped 2 (λ c. Detail.bad_character c) (λ c. refl) (character_spelled word))
      (test 8 _ _ (one 8 (Detail.unexpected word) refl)
      (test 10 _ _ (mapped 10 (λ n. Detail.unbound n) (λ n. refl) (name_spelled word))
      (test 11 _ _ (mapped 11 (λ n. Detail.ambiguous n) (λ n. refl) (name_spelled word))
      (test 12 _ _ (mapped 12 (λ n. Detail.duplicate n) (λ n. refl) (name_spelled word))
      (test 31 _ _ (mapped 31 (λ q. Detail.premise (Cause.limit q count)) (λ q. refl) (quantity_named word))
      bare_kept)))))

pub faults_keep_their_kinds : FaultsKeepTheirKinds
faults_keep_their_kinds N kind count word d e = kept N kind word count d e

pub fault_rows_hold : FaultRows
unfolding character_spelled chars is_utf8 encode
fault_rows_hold = record {
  found_word = refl;
  sign = refl;
  picture = refl;
  name = refl;
  bytes = refl;
  words = refl;
  no_reading = refl;
}
