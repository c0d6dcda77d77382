-- What the role of a kind of token says of the kind.
use Rattle.std.proofs.Common.{◌≡◌, ◌≢◌, sym, ap, ◌∙◌, subst, refl, ◌⊎◌, inl, inr}
use Rattle.qtt_lexer.specs.declared.token.TokenKind.{TokenKind}
use Rattle.qtt_lexer.specs.declared.token.TokenKind.TheVariants as kind
use Rattle.qtt_layout.specs.Rules.{role_of}
use Rattle.qtt_layout.specs.declared.role.Role.{Role}
use Rattle.qtt_layout.specs.declared.role.Role.TheVariants as role
use Rattle.qtt_layout_laws.specs.Blocks.{IsOpener}

abbrev pub Is : Role → TokenKind → Type 0
Is role.Opener k = IsOpener k
Is role.LeftBracket k = Unit {0}
Is role.RightBracket k = k ≡ kind.RightParen
Is role.Semicolon k = k ≡ kind.Semicolon
Is role.End k = k ≡ kind.End
Is role.Plain k = Unit {0}

pub is : (k : TokenKind) → Is (role_of k) k
is kind.Where = IsOpener.after_where
is kind.Do = IsOpener.after_do
is kind.RightParen = refl
is kind.Semicolon = refl
is kind.End = refl
is _ = tt

pub of_role : (k : TokenKind) (r : Role) → role_of k ≡ r → Is r k
of_role k r e = subst (λ (q : Role). Is q k) e (is k)

pub opener_role : {k : TokenKind} → IsOpener k → role_of k ≡ role.Opener
opener_role IsOpener.after_where = refl
opener_role IsOpener.after_do = refl

pub semicolon_role : {k : TokenKind} → k ≡ kind.Semicolon → role_of k ≡ role.Semicolon
semicolon_role e = ap role_of e

pub bracket_role : {k : TokenKind} → k ≡ kind.RightParen → role_of k ≡ role.RightBracket
bracket_role e = ap role_of e

pub end_role : {k : TokenKind} → k ≡ kind.End → role_of k ≡ role.End
end_role e = ap role_of e

pub not_end_role : (k : TokenKind) → k ≢ kind.End → role_of k ≢ role.End
not_end_role k n e = n (of_role k role.End e)

-- a fact or its contrary
abbrev pub Decided : Type 0 → Type 0
Decided A = A ⊎ (A → ⊥)

end_by : (k : TokenKind) (r : Role) → role_of k ≡ r → Is r k → Decided (k ≡ kind.End)
end_by k role.End e i = inl i
end_by k role.Opener e i = inr (λ q. let g : role.Opener ≡ role.End = sym e ∙ end_role q in absurd cc)
end_by k role.LeftBracket e i = inr (λ q. let g : role.LeftBracket ≡ role.End = sym e ∙ end_role q in absurd cc)
end_by k role.RightBracket e i = inr (λ q. let g : role.RightBracket ≡ role.End = sym e ∙ end_role q in absurd cc)
end_by k role.Semicolon e i = inr (λ q. let g : role.Semicolon ≡ role.End = sym e ∙ end_role q in absurd cc)
end_by k role.Plain e i = inr (λ q. let g : role.Plain ≡ role.End = sym e ∙ end_role q in absurd cc)

pub end_or : (k : TokenKind) → Decided (k ≡ kind.End)
end_or k = end_by k (role_of k) refl (is k)

bracket_by : (k : TokenKind) (r : Role) → role_of k ≡ r → Is r k → Decided (k ≡ kind.RightParen)
bracket_by k role.RightBracket e i = inl i
bracket_by k role.Opener e i = inr (λ q. let g : role.Opener ≡ role.RightBracket = sym e ∙ bracket_role q in absurd cc)
bracket_by k role.LeftBracket e i =
    inr (λ q. let g : role.LeftBracket ≡ role.RightBracket = sym e ∙ bracket_role q in absurd cc)
bracket_by k role.End e i = inr (λ q. let g : role.End ≡ role.RightBracket = sym e ∙ bracket_role q in absurd cc)
bracket_by k role.Semicolon e i =
    inr (λ q. let g : role.Semicolon ≡ role.RightBracket = sym e ∙ bracket_role q in absurd cc)
bracket_by k role.Plain e i = inr (λ q. let g : role.Plain ≡ role.RightBracket = sym e ∙ bracket_role q in absurd cc)

pub bracket_or : (k : TokenKind) → Decided (k ≡ kind.RightParen)
bracket_or k = bracket_by k (role_of k) refl (is k)

-- what is no opener and no `;`
pub plain_role : (k : TokenKind) (r : Role) → role_of k ≡ r → r ≢ role.Semicolon → r ≢ role.Opener →
    (k ≢ kind.Semicolon) × (IsOpener k → ⊥)
plain_role k r e s o = (λ q. s (sym e ∙ semicolon_role q), λ q. o (sym e ∙ opener_role q))
