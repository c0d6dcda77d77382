-- Answers over texts, one stage behind the other.
use Rattle.std.proofs.Common.{◌≡◌, ◌∙◌, ℕ, Option, Some, IfSome, Result, Ok, Err, refl, sym, ap, subst}
use Rattle.qtt_edge.specs.Counts.{Counts}
use Rattle.qtt_load.specs.Reading.{Texts}
use Rattle.qtt_module.specs.Refused.{refused_of}
use Rattle.qtt_graph.specs.Graph.{Name}
use Rattle.qtt_build.specs.Answer.{IsBuild, IsAbsent as building_is_absent, built_of}
use Rattle.qtt_build.specs.declared.built.Built as code
use Rattle.qtt_build.specs.declared.errors.BuildError.{BuildError}
use Rattle.qtt_build.specs.declared.errors.BuildError.TheVariants as building
use Rattle.qtt_outcome.specs.Stop as outcome
use Rattle.qtt_outcome.specs.Stop.{Answer, ◌>>=◌, of_build}
use Rattle.qtt_cli.specs.declared.device.Device.{Device}
use Rattle.qtt_cli.specs.declared.device.Device.TheVariants as device
use Rattle.qtt_cli.specs.declared.stop.Stop.{Stop}
use Rattle.qtt_cli.specs.declared.stop.Stop.TheVariants as stop
use Rattle.qtt_cli.specs.Stops as stops
use Rattle.qtt_cli.specs.Stops.{Comes, AnswersOver, Gives, IsAbsent}
use Rattle.qtt_cli.specs.Commands.{built_over}

pub ok-then : {A B : Type 0} (a : A) (k : A → Answer B) → Ok a >>= k ≡ k a
unfolding ◌>>=◌
ok-then a k = refl

pub err-then : {A B : Type 0} (s : outcome.Stop) (k : A → Answer B) → Err s >>= k ≡ Err s
unfolding ◌>>=◌
err-then s k = refl

-- ---- over texts
comes-then : {A B : Type 0} (told : Option Texts) (answer : Texts → Answer A) (k : A → Answer B) (a : Answer A)
    (b : Answer B) → a >>= k ≡ b → Comes told answer a → Comes told (λ t. answer t >>= k) b
comes-then told answer k a b e c = (c.0, c.1, ap (λ m. m >>= k) c.2 ∙ e)

-- a value, and what stands behind it
pub answers-then : {A B X Y : Type 0} (told : Option Texts) (answer : Texts → Answer A) (view : X → A) (x : X)
    (k : A → Answer B) (other : Y → B) (y : Y) → AnswersOver told answer view (Ok x) → k (view x) ≡ Ok (other y) →
    AnswersOver told (λ t. answer t >>= k) other (Ok y)
answers-then told answer view x k other y a e =
    comes-then told answer k (Ok (view x)) (Ok (other y)) (ok-then (view x) k ∙ e) a

-- why there is none, for what stands behind it too
pub answers-stop : {A B X Y : Type 0} (told : Option Texts) (answer : Texts → Answer A) (view : X → A)
    (k : A → Answer B) (other : Y → B) (s : Stop) → AnswersOver told answer view (Err s) →
    AnswersOver told (λ t. answer t >>= k) other (Err s)
answers-stop told answer view k other stop.Usage a = a
answers-stop told answer view k other (stop.Absent n) a =
    let s = outcome.Stop.absent n in comes-then told answer k (Err s) (Err s) (err-then s k) a
answers-stop told answer view k other (stop.Refused r) a =
    let s = outcome.Stop.refused (refused_of r) in comes-then told answer k (Err s) (Err s) (err-then s k) a
answers-stop told answer view k other (stop.Failed device.Vault) a = a
answers-stop told answer view k other (stop.Failed device.Input) a = a
answers-stop told answer view k other (stop.Failed device.Output) a = a
answers-stop told answer view k other (stop.Failed device.Tape) a = a
answers-stop told answer view k other stop.Memory a = a

-- ---- builds
pub answers-built : (told : Option Texts) (root : Name) (n : ℕ) (b : code.Built) → IsBuild told root n (Ok b) →
    AnswersOver told (built_over root n) built_of (Ok b)
answers-built told root n b i = (i.0.0, i.0.1, ap of_build i.0.2)

pub answers-unbuilt : (told : Option Texts) (root : Name) (n : ℕ) (e : BuildError) → IsBuild told root n (Err e) →
    AnswersOver told (built_over root n) built_of (Err (stops.of_build e))
answers-unbuilt told root n (building.Refused r) i = (i.0, i.1, ap of_build i.2)
answers-unbuilt told root n (building.Absent a) i = (i.0, i.1, ap of_build i.2)
answers-unbuilt told root n building.VaultFault i = tt
answers-unbuilt told root n building.Memory i = tt

-- ---- of one build
pub gives-stop : {A B X Y : Type 0} (m : Answer A) (k : A → Answer B) (view : X → A) (other : Y → B) (s : Stop) →
    Gives view (Err s) m → Gives other (Err s) (m >>= k)
gives-stop m k view other stop.Usage g = g
gives-stop m k view other (stop.Absent a) g = g
gives-stop m k view other (stop.Refused r) g =
    let s = outcome.Stop.refused (refused_of r) in ap (λ a. a >>= k) g ∙ err-then s k
gives-stop m k view other (stop.Failed d) g = g
gives-stop m k view other stop.Memory g = g

pub gives-behind : {A B Y : Type 0} (m : Answer A) (k : A → Answer B) (a : A) (other : Y → B) (r : Result Y Stop) →
    m ≡ Ok a → Gives other r (k a) → Gives other r (m >>= k)
gives-behind m k a other r e g = subst (Gives other r) (sym (ap (λ x. x >>= k) e ∙ ok-then a k)) g

-- what is given of a build, over the texts of it
pub answers-given : {A X Y : Type 0} (told : Option Texts) (answer : Texts → Answer A) (a : A) (k : A → Answer X)
    (view : Y → X) (r : Result Y Stop) → Comes told answer (Ok a) → Gives view r (k a) →
    AnswersOver told (λ t. answer t >>= k) view r
answers-given told answer a k view (Ok y) c g = comes-then told answer k (Ok a) (Ok (view y)) (ok-then a k ∙ g) c
answers-given told answer a k view (Err stop.Usage) c g = g
answers-given told answer a k view (Err (stop.Absent n)) c g = absurd g
answers-given told answer a k view (Err (stop.Refused r)) c g =
    comes-then told answer k (Ok a) (Err (outcome.Stop.refused (refused_of r))) (ok-then a k ∙ g) c
answers-given told answer a k view (Err (stop.Failed d)) c g = absurd g
answers-given told answer a k view (Err stop.Memory) c g = tt

-- what is given is no failure, and says of no module that it is not there
pub gives-no-failure : {A Y : Type 0} (view : Y → A) (r : Result Y Stop) (answer : Answer A) (d : Device) →
    Gives view r answer → r ≡ Err (stop.Failed d) → ⊥
gives-no-failure view r answer d g e = subst (λ x. Gives view x answer) e g

pub gives-nothing-absent : {A Y : Type 0} (view : Y → A) (r : Result Y Stop) (answer : Answer A) →
    Gives view r answer → IsAbsent r → ⊥
gives-nothing-absent view (Ok y) answer g i = i
gives-nothing-absent view (Err stop.Usage) answer g i = i
gives-nothing-absent view (Err (stop.Absent n)) answer g i = g
gives-nothing-absent view (Err (stop.Refused r)) answer g i = i
gives-nothing-absent view (Err (stop.Failed d)) answer g i = i
gives-nothing-absent view (Err stop.Memory) answer g i = i

-- ---- counts
pub counts-by : {P Q : Type 0} (before now : ℕ) → (Q → P) → Counts before now P → Counts before now Q
counts-by before now f c = record { later = c.later; rose = λ q. c.rose (f q) }

-- a build that stops for a fault of the vault, or for an absent module
failed-by-vault : (e : BuildError) → stops.of_build e ≡ stop.Failed device.Vault → e ≡ building.VaultFault
failed-by-vault (building.Refused r) h = absurd (cc h)
failed-by-vault (building.Absent a) h = absurd (cc h)
failed-by-vault building.VaultFault h = refl
failed-by-vault building.Memory h = absurd (cc h)

pub build-failed : {X Y : Type 0} (r : Result X BuildError) (q : Result Y Stop) (e : BuildError) → r ≡ Err e →
    q ≡ Err (stops.of_build e) → q ≡ Err (stop.Failed device.Vault) → r ≡ Err building.VaultFault
build-failed r q e a b f =
    let g : stops.of_build e ≡ stop.Failed device.Vault =
    (let h : Err (stops.of_build e) ≡ Err (stop.Failed device.Vault) = sym b ∙ f in cc h) in
    a ∙ ap (λ (x : BuildError). Err x) (failed-by-vault e g)

absent-so : (X Y : Type 0) (e : BuildError) → IsAbsent {X = Y} (Err (stops.of_build e)) →
    building_is_absent {X = X} (Err e)
absent-so X Y (building.Refused r) h = h
absent-so X Y (building.Absent a) h = h
absent-so X Y building.VaultFault h = h
absent-so X Y building.Memory h = h

pub build-absent : {X Y : Type 0} (r : Result X BuildError) (q : Result Y Stop) (e : BuildError) → r ≡ Err e →
    q ≡ Err (stops.of_build e) → IsAbsent q → building_is_absent r
build-absent {X} {Y} r q e a b i = subst building_is_absent (sym a) (absent-so X Y e (subst IsAbsent b i))

-- over texts that are known, over whatever others
comes-apart : {A : Type 0} (f : Texts) (answer : Texts → Answer A) (told : Option Texts) (texts : Texts) →
    IfSome told (λ g. g ≡ texts) → (a : Answer A) → Comes (Some f) answer a → Comes told (λ t. answer f) a
comes-apart f answer told texts i a c = (texts, i, ap answer c.1 ∙ c.2)

pub answers-apart : {A X : Type 0} (f : Texts) (answer : Texts → Answer A) (view : X → A) (told : Option Texts)
    (texts : Texts) → IfSome told (λ g. g ≡ texts) → (r : Result X Stop) →
    AnswersOver (Some f) answer view r → AnswersOver told (λ t. answer f) view r
answers-apart f answer view told texts i (Ok x) a = comes-apart f answer told texts i (Ok (view x)) a
answers-apart f answer view told texts i (Err stop.Usage) a = a
answers-apart f answer view told texts i (Err (stop.Absent n)) a =
    comes-apart f answer told texts i (Err (outcome.Stop.absent n)) a
answers-apart f answer view told texts i (Err (stop.Refused r)) a =
    comes-apart f answer told texts i (Err (outcome.Stop.refused (refused_of r))) a
answers-apart f answer view told texts i (Err (stop.Failed device.Vault)) a = a
answers-apart f answer view told texts i (Err (stop.Failed device.Input)) a = a
answers-apart f answer view told texts i (Err (stop.Failed device.Output)) a = a
answers-apart f answer view told texts i (Err (stop.Failed device.Tape)) a = a
answers-apart f answer view told texts i (Err stop.Memory) a = a
