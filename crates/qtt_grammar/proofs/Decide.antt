-- Facts of all forms of tokens, decided by trying each.
use Rattle.std.proofs.Common.{◌≡◌, Bool, true, false, ◌&&◌, List, [], ◌∷◌, refl}
use Rattle.qtt_grammar.specs.declared.class.Class.{Class}
use Rattle.qtt_grammar.specs.declared.class.Class.TheVariants.{Open, Next, Close, Module, Import, Data, Where, Do, Let, In, Partial, The, Universe, Small, Big, SmallPath, BigPath, Wildcard, Zero, One, Natural, Negative, Text, Hole, LeftParen, RightParen, DotParen, Arrow, LeftArrow, FatArrow, Colon, Equals, Backslash, LeftBrace, RightBrace, Other}
use Rattle.qtt_grammar.specs.Grammar.{of}
use Rattle.qtt_phrase.proofs.Exact.{Apart, Among}

abbrev pub classes : List Class
classes = Open ∷ Next ∷ Close ∷ Module ∷ Import ∷ Data ∷ Where ∷ Do ∷ Let ∷ In ∷ Partial ∷ The ∷ Universe ∷
    Small ∷ Big ∷ SmallPath ∷ BigPath ∷ Wildcard ∷ Zero ∷ One ∷ Natural ∷ Negative ∷ Text ∷ Hole ∷ LeftParen ∷
    RightParen ∷ DotParen ∷ Arrow ∷ LeftArrow ∷ FatArrow ∷ Colon ∷ Equals ∷ Backslash ∷ LeftBrace ∷ RightBrace ∷
    Other ∷ []

-- the test holds of each form
abbrev pub all_of : (Class → Bool) → List Class → Bool
all_of f [] = true
all_of f (c ∷ cs) = f c && all_of f cs

abbrev pub every : (Class → Bool) → Bool
every f = all_of f classes

here : (a b : Bool) → a && b ≡ true → a ≡ true
here true b e = refl
here false b e = absurd cc

there : (a b : Bool) → a && b ≡ true → b ≡ true
there true b e = e
there false b e = absurd cc

data Within : Class → List Class → Type 0 where
  first : (c : Class) (cs : List Class) → Within c (c ∷ cs)
  later : (c d : Class) (cs : List Class) → Within c cs → Within c (d ∷ cs)

in_all : (f : Class → Bool) (c : Class) (cs : List Class) → Within c cs → all_of f cs ≡ true → f c ≡ true
in_all f c cs (first d ds) e = here (f d) (all_of f ds) e
in_all f c cs (later d b ds i) e = in_all f d ds i (there (f b) (all_of f ds) e)

within : (c : Class) → Within c classes
within Open = (first _ _)
within Next = (later _ _ _ (first _ _))
within Close = (later _ _ _ (later _ _ _ (first _ _)))
within Module = (later _ _ _ (later _ _ _ (later _ _ _ (first _ _))))
within Import = (later _ _ _ (later _ _ _ (later _ _ _ (later _ _ _ (first _ _)))))
within Data = (later _ _ _ (later _ _ _ (later _ _ _ (later _ _ _ (later _ _ _ (first _ _))))))
within Where = (later _ _ _ (later _ _ _ (later _ _ _ (later _ _ _ (later _ _ _ (later _ _ _ (first _ _)))))))
within Do =
    (later _ _ _ (later _ _ _ (later _ _ _ (later _ _ _ (later _ _ _ (later _ _ _ (later _ _ _ (first _ _))))))))
within Let = (later _ _ _
    (later _ _ _ (later _ _ _ (later _ _ _ (later _ _ _ (later _ _ _ (later _ _ _ (later _ _ _ (first _ _)))))))))
within In =
    (later _ _ _ (later _ _ _
    (later _ _ _ (later _ _ _
    (later _ _ _ (later _ _ _ (later _ _ _ (later _ _ _ (later _ _ _ (first _ _))))))))))
within Partial = (later _ _ _
    (later _ _ _ (later _ _ _
    (later _ _ _ (later _ _ _
    (later _ _ _ (later _ _ _ (later _ _ _ (later _ _ _ (later _ _ _ (first _ _)))))))))))
within The = (later _ _ _
    (later _ _ _ (later _ _ _
    (later _ _ _ (later _ _ _
    (later _ _ _ (later _ _ _ (later _ _ _ (later _ _ _ (later _ _ _ (later _ _ _ (first _ _))))))))))))
within Universe = (later _ _ _
    (later _ _ _ (later _ _ _
    (later _ _ _ (later _ _ _
    (later _ _ _ (later _ _ _
    (later _ _ _ (later _ _ _ (later _ _ _ (later _ _ _ (later _ _ _ (first _ _)))))))))))))
within Small = (later _ _ _
    (later _ _ _ (later _ _ _
    (later _ _ _ (later _ _ _
    (later _ _ _ (later _ _ _
    (later _ _ _ (later _ _ _ (later _ _ _ (later _ _ _ (later _ _ _ (later _ _ _ (first _ _))))))))))))))
within Big = (later _ _ _
    (later _ _ _ (later _ _ _
    (later _ _ _ (later _ _ _
    (later _ _ _ (later _ _ _
    (later _ _ _ (later _ _ _
    (later _ _ _ (later _ _ _ (later _ _ _ (later _ _ _ (later _ _ _ (first _ _)))))))))))))))
within SmallPath = (later _ _ _
    (later _ _ _ (later _ _ _
    (later _ _ _ (later _ _ _
    (later _ _ _ (later _ _ _
    (later _ _ _ (later _ _ _
    (later _ _ _ (later _ _ _ (later _ _ _ (later _ _ _ (later _ _ _ (later _ _ _ (first _ _))))))))))))))))
within BigPath = (later _ _ _
    (later _ _ _ (later _ _ _
    (later _ _ _ (later _ _ _
    (later _ _ _ (later _ _ _
    (later _ _ _ (later _ _ _
    (later _ _ _ (later _ _ _
    (later _ _ _ (later _ _ _ (later _ _ _ (later _ _ _ (later _ _ _ (first _ _)))))))))))))))))
within Wildcard = (later _ _ _
    (later _ _ _ (later _ _ _
    (later _ _ _ (later _ _ _
    (later _ _ _ (later _ _ _
    (later _ _ _ (later _ _ _
    (later _ _ _ (later _ _ _
    (later _ _ _ (later _ _ _ (later _ _ _ (later _ _ _ (later _ _ _ (later _ _ _ (first _ _))))))))))))))))))
within Zero = (later _ _ _
    (later _ _ _ (later _ _ _
    (later _ _ _ (later _ _ _
    (later _ _ _ (later _ _ _
    (later _ _ _ (later _ _ _
    (later _ _ _ (later _ _ _
    (later _ _ _ (later _ _ _
    (later _ _ _ (later _ _ _ (later _ _ _ (later _ _ _ (later _ _ _ (first _ _)))))))))))))))))))
within One = (later _ _ _
    (later _ _ _ (later _ _ _
    (later _ _ _ (later _ _ _
    (later _ _ _ (later _ _ _
    (later _ _ _ (later _ _ _
    (later _ _ _ (later _ _ _
    (later _ _ _ (later _ _ _
    (later _ _ _ (later _ _ _ (later _ _ _ (later _ _ _ (later _ _ _ (later _ _ _ (first _ _))))))))))))))))))))
within Natural = (later _ _ _
    (later _ _ _ (later _ _ _
    (later _ _ _ (later _ _ _
    (later _ _ _ (later _ _ _
    (later _ _ _ (later _ _ _
    (later _ _ _ (later _ _ _
    (later _ _ _ (later _ _ _
    (later _ _ _ (later _ _ _
    (later _ _ _ (later _ _ _ (later _ _ _ (later _ _ _ (later _ _ _ (first _ _)))))))))))))))))))))
within Negative = (later _ _ _
    (later _ _ _ (later _ _ _
    (later _ _ _ (later _ _ _
    (later _ _ _ (later _ _ _
    (later _ _ _ (later _ _ _
    (later _ _ _ (later _ _ _
    (later _ _ _ (later _ _ _
    (later _ _ _ (later _ _ _
    (later _ _ _ (later _ _ _ (later _ _ _ (later _ _ _ (later _ _ _ (later _ _ _ (first _ _))))))))))))))))))))))
within Text = (later _ _ _
    (later _ _ _ (later _ _ _
    (later _ _ _ (later _ _ _
    (later _ _ _ (later _ _ _
    (later _ _ _ (later _ _ _
    (later _ _ _ (later _ _ _
    (later _ _ _ (later _ _ _
    (later _ _ _ (later _ _ _
    (later _ _ _ (later _ _ _
    (later _ _ _ (later _ _ _ (later _ _ _ (later _ _ _ (later _ _ _ (first _ _)))))))))))))))))))))))
within Hole = (later _ _ _
    (later _ _ _ (later _ _ _
    (later _ _ _ (later _ _ _
    (later _ _ _ (later _ _ _
    (later _ _ _ (later _ _ _
    (later _ _ _ (later _ _ _
    (later _ _ _ (later _ _ _
    (later _ _ _ (later _ _ _
    (later _ _ _ (later _ _ _
    (later _ _ _ (later _ _ _
    (later _ _ _ (later _ _ _ (later _ _ _ (later _ _ _ (first _ _))))))))))))))))))))))))
within LeftParen = (later _ _ _
    (later _ _ _ (later _ _ _
    (later _ _ _ (later _ _ _
    (later _ _ _ (later _ _ _
    (later _ _ _ (later _ _ _
    (later _ _ _ (later _ _ _
    (later _ _ _ (later _ _ _
    (later _ _ _ (later _ _ _
    (later _ _ _ (later _ _ _
    (later _ _ _ (later _ _ _
    (later _ _ _ (later _ _ _ (later _ _ _ (later _ _ _ (later _ _ _ (first _ _)))))))))))))))))))))))))
within RightParen = (later _ _ _
    (later _ _ _ (later _ _ _
    (later _ _ _ (later _ _ _
    (later _ _ _ (later _ _ _
    (later _ _ _ (later _ _ _
    (later _ _ _ (later _ _ _
    (later _ _ _ (later _ _ _
    (later _ _ _ (later _ _ _
    (later _ _ _ (later _ _ _
    (later _ _ _ (later _ _ _
    (later _ _ _ (later _ _ _
    (later _ _ _ (later _ _ _ (later _ _ _ (later _ _ _ (first _ _))))))))))))))))))))))))))
within DotParen = (later _ _ _
    (later _ _ _ (later _ _ _
    (later _ _ _ (later _ _ _
    (later _ _ _ (later _ _ _
    (later _ _ _ (later _ _ _
    (later _ _ _ (later _ _ _
    (later _ _ _ (later _ _ _
    (later _ _ _ (later _ _ _
    (later _ _ _ (later _ _ _
    (later _ _ _ (later _ _ _
    (later _ _ _ (later _ _ _
    (later _ _ _ (later _ _ _ (later _ _ _ (later _ _ _ (later _ _ _ (first _ _)))))))))))))))))))))))))))
within Arrow = (later _ _ _
    (later _ _ _ (later _ _ _
    (later _ _ _ (later _ _ _
    (later _ _ _ (later _ _ _
    (later _ _ _ (later _ _ _
    (later _ _ _ (later _ _ _
    (later _ _ _ (later _ _ _
    (later _ _ _ (later _ _ _
    (later _ _ _ (later _ _ _
    (later _ _ _ (later _ _ _
    (later _ _ _ (later _ _ _
    (later _ _ _ (later _ _ _
    (later _ _ _ (later _ _ _ (later _ _ _ (later _ _ _ (first _ _))))))))))))))))))))))))))))
within LeftArrow = (later _ _ _
    (later _ _ _ (later _ _ _
    (later _ _ _ (later _ _ _
    (later _ _ _ (later _ _ _
    (later _ _ _ (later _ _ _
    (later _ _ _ (later _ _ _
    (later _ _ _ (later _ _ _
    (later _ _ _ (later _ _ _
    (later _ _ _ (later _ _ _
    (later _ _ _ (later _ _ _
    (later _ _ _ (later _ _ _
    (later _ _ _ (later _ _ _
    (later _ _ _ (later _ _ _ (later _ _ _ (later _ _ _ (later _ _ _ (first _ _)))))))))))))))))))))))))))))
within FatArrow = (later _ _ _
    (later _ _ _ (later _ _ _
    (later _ _ _ (later _ _ _
    (later _ _ _ (later _ _ _
    (later _ _ _ (later _ _ _
    (later _ _ _ (later _ _ _
    (later _ _ _ (later _ _ _
    (later _ _ _ (later _ _ _
    (later _ _ _ (later _ _ _
    (later _ _ _ (later _ _ _
    (later _ _ _ (later _ _ _
    (later _ _ _ (later _ _ _
    (later _ _ _ (later _ _ _
    (later _ _ _ (later _ _ _ (later _ _ _ (later _ _ _ (first _ _))))))))))))))))))))))))))))))
within Colon = (later _ _ _
    (later _ _ _ (later _ _ _
    (later _ _ _ (later _ _ _
    (later _ _ _ (later _ _ _
    (later _ _ _ (later _ _ _
    (later _ _ _ (later _ _ _
    (later _ _ _ (later _ _ _
    (later _ _ _ (later _ _ _
    (later _ _ _ (later _ _ _
    (later _ _ _ (later _ _ _
    (later _ _ _ (later _ _ _
    (later _ _ _ (later _ _ _
    (later _ _ _ (later _ _ _
    (later _ _ _ (later _ _ _ (later _ _ _ (later _ _ _ (later _ _ _ (first _ _)))))))))))))))))))))))))))))))
within Equals = (later _ _ _
    (later _ _ _ (later _ _ _
    (later _ _ _ (later _ _ _
    (later _ _ _ (later _ _ _
    (later _ _ _ (later _ _ _
    (later _ _ _ (later _ _ _
    (later _ _ _ (later _ _ _
    (later _ _ _ (later _ _ _
    (later _ _ _ (later _ _ _
    (later _ _ _ (later _ _ _
    (later _ _ _ (later _ _ _
    (later _ _ _ (later _ _ _
    (later _ _ _ (later _ _ _
    (later _ _ _ (later _ _ _
    (later _ _ _ (later _ _ _ (later _ _ _ (later _ _ _ (first _ _))))))))))))))))))))))))))))))))
within Backslash = (later _ _ _
    (later _ _ _ (later _ _ _
    (later _ _ _ (later _ _ _
    (later _ _ _ (later _ _ _
    (later _ _ _ (later _ _ _
    (later _ _ _ (later _ _ _
    (later _ _ _ (later _ _ _
    (later _ _ _ (later _ _ _
    (later _ _ _ (later _ _ _
    (later _ _ _ (later _ _ _
    (later _ _ _ (later _ _ _
    (later _ _ _ (later _ _ _
    (later _ _ _ (later _ _ _
    (later _ _ _ (later _ _ _
    (later _ _ _ (later _ _ _ (later _ _ _ (later _ _ _ (later _ _ _ (first _ _)))))))))))))))))))))))))))))))))
within LeftBrace = (later _ _ _
    (later _ _ _ (later _ _ _
    (later _ _ _ (later _ _ _
    (later _ _ _ (later _ _ _
    (later _ _ _ (later _ _ _
    (later _ _ _ (later _ _ _
    (later _ _ _ (later _ _ _
    (later _ _ _ (later _ _ _
    (later _ _ _ (later _ _ _
    (later _ _ _ (later _ _ _
    (later _ _ _ (later _ _ _
    (later _ _ _ (later _ _ _
    (later _ _ _ (later _ _ _
    (later _ _ _ (later _ _ _
    (later _ _ _ (later _ _ _
    (later _ _ _ (later _ _ _ (later _ _ _ (later _ _ _ (first _ _))))))))))))))))))))))))))))))))))
within RightBrace = (later _ _ _
    (later _ _ _ (later _ _ _
    (later _ _ _ (later _ _ _
    (later _ _ _ (later _ _ _
    (later _ _ _ (later _ _ _
    (later _ _ _ (later _ _ _
    (later _ _ _ (later _ _ _
    (later _ _ _ (later _ _ _
    (later _ _ _ (later _ _ _
    (later _ _ _ (later _ _ _
    (later _ _ _ (later _ _ _
    (later _ _ _ (later _ _ _
    (later _ _ _ (later _ _ _
    (later _ _ _ (later _ _ _
    (later _ _ _ (later _ _ _
    (later _ _ _ (later _ _ _ (later _ _ _ (later _ _ _ (later _ _ _ (first _ _)))))))))))))))))))))))))))))))))))
within Other = (later _ _ _
    (later _ _ _ (later _ _ _
    (later _ _ _ (later _ _ _
    (later _ _ _ (later _ _ _
    (later _ _ _ (later _ _ _
    (later _ _ _ (later _ _ _
    (later _ _ _ (later _ _ _
    (later _ _ _ (later _ _ _
    (later _ _ _ (later _ _ _
    (later _ _ _ (later _ _ _
    (later _ _ _ (later _ _ _
    (later _ _ _ (later _ _ _
    (later _ _ _ (later _ _ _
    (later _ _ _ (later _ _ _
    (later _ _ _ (later _ _ _
    (later _ _ _ (later _ _ _
    (later _ _ _ (later _ _ _ (later _ _ _ (later _ _ _ (first _ _))))))))))))))))))))))))))))))))))))

pub each : (f : Class → Bool) → every f ≡ true → (c : Class) → f c ≡ true
each f e c = in_all f c classes (within c) e

abbrev pub implies : Bool → Bool → Bool
implies true b = b
implies false b = true

pub implied : (a b : Bool) → implies a b ≡ true → a ≡ true → b ≡ true
implied true b e h = e
implied false b e h = absurd cc

abbrev pub not : Bool → Bool
not true = false
not false = true

pub refuted : (b : Bool) → not b ≡ true → b ≡ false
refuted true e = absurd cc
refuted false e = refl

-- no form is of both kinds
pub apart : (t u : Class → Bool) → every (λ c. implies (u c) (not (t c))) ≡ true → Apart (of t) (of u)
apart t u e x h = refuted (t x.class)
    (implied (u x.class) (not (t x.class)) (each (λ c. implies (u c) (not (t c))) e x.class) h)

-- each form of the one kind is of the other
pub among : (t u : Class → Bool) → every (λ c. implies (t c) (u c)) ≡ true → Among (of t) (of u)
among t u e x h = implied (t x.class) (u x.class) (each (λ c. implies (t c) (u c)) e x.class) h
