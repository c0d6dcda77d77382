-- Items that are judged and then put into the environment.
use Rattle.std.specs.Prelude.{◌≡◌, ℕ, ◌⊎◌, [], Result, Ok, Err, MatchResult}
use Rattle.qtt_term.specs.Entries.{Entries, env, with_family}
use Rattle.qtt_rules.specs.declared.errors.ElabError.{ElabError}
use Rattle.qtt_rules.specs.Asks.{Asks}
use Rattle.qtt_bidi.specs.Answers.{Reaches, Refuses}
use Rattle.qtt_module.specs.Families.{Head, family_with}

-- over G the list ends within n contractions with an item, which is put there
pub record Put {A : Type 0} (put : A → Entries → Entries) (G H : Entries) (n : ℕ) (m : Asks A) : Type 0 where
  pub item : A
  pub reaches : Reaches (env G) n m item
  pub stands : H ≡ put item G

-- or it ends as the refusal says
abbrev pub Puts : {A : Type 0} → (A → Entries → Entries) → Entries → Entries → ℕ → Asks A →
    Result (Unit {0}) ElabError → Type 0
Puts put G H n m result = MatchResult result (λ u. Put put G H n m) (λ e. Refuses (env G) n m e)

-- what stands where a family is refused: what stood there, where this list, which gives the family without
-- constructors, ends as the refusal says; or besides what stood there the family that it ends with, of which the terms
-- that are kept may speak
abbrev pub Left : Entries → Entries → ℕ → Asks Head → Result (Unit {0}) ElabError → Type 0
Left G H n m (Ok u) = Unit {0}
Left G H n m (Err e) =
    (Refuses (env G) n m e × (H ≡ G)) ⊎ Put (λ F. with_family (family_with F [])) G H n m
