-- Phrases: which lists of tokens say which values, and the first fault that they have, if any.
use Rattle.std.specs.Prelude.{◌≡◌, List, [], ◌∷◌, ◌++◌, Bool, true, false, cond, Option, Some, None, ◌⊎◌}

-- tokens of the type T say a value of the type A, with a fault of the type F or none
abbrev pub Phrase : Type 0 → Type 0 → Type 0 → Type 1
Phrase T F A = List T → A → Option F → Type 0

-- the first of the faults of two parts
abbrev pub first : {F : Type 0} → Option F → Option F → Option F
first (Some f) _ = Some f
first None o = o

-- one token of a kind, its value, and its fault
abbrev pub Weighed : {T F A : Type 0} → (T → Option F) → (T → Bool) → (T → A) → Phrase T F A
Weighed faults is value ts a o = (x : _) × (ts ≡ x ∷ []) × (is x ≡ true) × (value x ≡ a) × (faults x ≡ o)

-- one token of a kind, and its value
abbrev pub Token : {T F A : Type 0} → (T → Bool) → (T → A) → Phrase T F A
Token is value = Weighed (λ _. None) is value

-- a token of a kind, where one may stand
abbrev pub opens : {T : Type 0} → Bool → (T → Bool) → T → Bool
opens may is x = cond may (is x) false

-- one phrase, and then another that may depend on the first one's value
abbrev pub Chain : {T F A B : Type 0} → Phrase T F A → (A → Phrase T F B) → Phrase T F (A × B)
Chain P Q ts c o = (us vs : List _) × (p q : Option _) × (ts ≡ us ++ vs) × P us c.0 p × Q c.0 vs c.1 q × (first p q ≡ o)

-- one phrase and then another
infixr 6 ◌then◌
abbrev pub ◌then◌ : {T F A B : Type 0} → Phrase T F A → Phrase T F B → Phrase T F (A × B)
P then Q = Chain P (λ _. Q)

-- the value made of a phrase's value
abbrev pub Making : {T F A B : Type 0} → (A → B) → Phrase T F A → Phrase T F B
Making f P ts b o = (a : _) × P ts a o × (f a ≡ b)

infixr 4 ◌or◌
abbrev pub ◌or◌ : {T F A : Type 0} → Phrase T F A → Phrase T F A → Phrase T F A
(P or Q) ts a o = P ts a o ⊎ Q ts a o

-- any number of them
abbrev pub Many : {T F A : Type 0} → Phrase T F A → Phrase T F (List A)
Many P ts [] o = (ts ≡ []) × (None ≡ o)
Many P ts (a ∷ more) o = (us vs : List _) × (p q : Option _) × (ts ≡ us ++ vs) × P us a p × Many P vs more q ×
    (first p q ≡ o)

-- at least one
abbrev pub Some_of : {T F A : Type 0} → Phrase T F A → Phrase T F (A × List A)
Some_of P = P then Many P

-- Any number of them, each as the state asks in which the ones before it leave the reader: `goes` tells
-- the states in which another one may come, and `ends` those in which there need be none.
abbrev pub Run : {T F A S : Type 0} → (S → Bool) → (S → Bool) → (S → A → S) →
    (S → Phrase T F A) → S → Phrase T F (List A)
Run ends goes next P s ts [] o = (ts ≡ []) × (ends s ≡ true) × (None ≡ o)
Run ends goes next P s ts (a ∷ more) o =
    (us vs : List _) × (p q : Option _) × (ts ≡ us ++ vs) × (goes s ≡ true) × P s us a p × Run ends goes next P
    (next s a) vs more q × (first p q ≡ o)

-- a phrase that may not be there, with the fault of its first token
abbrev pub Above : {T F A : Type 0} → (T → F) → Phrase T F A → Phrase T F A
Above fault P ts a o = (x : _) × (r : List _) × (p : Option _) × (ts ≡ x ∷ r) × P ts a p × (Some (fault x) ≡ o)

-- nothing, for which a value stands, or a phrase
abbrev pub Perhaps : {T F A : Type 0} → A → Phrase T F A → Phrase T F A
Perhaps none P ts a o = ((ts ≡ []) × (none ≡ a) × (None ≡ o)) ⊎ P ts a o

-- a phrase, with the place of its first token
abbrev pub Placed : {T S F A : Type 0} → (T → S) → Phrase T F A → Phrase T F (S × A)
Placed place P ts c o = (x : _) × (r : List _) × (ts ≡ x ∷ r) × (place x ≡ c.0) × P ts c.1 o

-- some phrase begins with these tokens
abbrev pub BeginsSome : {T F A : Type 0} → Phrase T F A → List T → Type 0
BeginsSome P front = (more : List _) × (a : _) × (o : Option _) × P (front ++ more) a o

-- the rest begins with the first bad token: some phrase begins with the tokens before it, and none with that one
-- too
pub record FirstBad {T F A : Type 0} (P : Phrase T F A) (ls rest : List T) : Type 0 where
  pub front : List T
  pub parts : ls ≡ front ++ rest
  pub goes : BeginsSome P front
  pub stops : (x : T) (r : List T) → rest ≡ x ∷ r → BeginsSome P (front ++ x ∷ []) → ⊥

-- Some tokens at the front of the list begin a phrase, and each phrase that they begin has f as its first fault.
pub record Settles {T F A : Type 0} (P : Phrase T F A) (ls : List T) (f : F) : Type 0 where
  pub front : List T
  pub rest : List T
  pub parts : ls ≡ front ++ rest
  pub begun : BeginsSome P front
  pub each : (more : List T) (a : A) (o : Option F) → P (front ++ more) a o → o ≡ Some f
