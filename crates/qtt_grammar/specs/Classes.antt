-- The forms of tokens, and sets of them.
use Rattle.std.specs.Prelude.{ℕ, Bool, true, false, nat_eq}
use Rattle.qtt_grammar.specs.declared.class.Class.{Class}
use Rattle.qtt_grammar.specs.declared.class.Class.TheVariants.{Open, Next, Close, Module, Import, Data, Where, Do, Let, In, Partial, The, Universe, Small, Big, SmallPath, BigPath, Wildcard, Zero, One, Natural, Negative, Text, Hole, LeftParen, RightParen, DotParen, Arrow, LeftArrow, FatArrow, Colon, Equals, Backslash, LeftBrace, RightBrace, Other}

-- the number of a form
abbrev pub rank : Class → ℕ
rank Open = 0
rank Next = 1
rank Close = 2
rank Module = 3
rank Import = 4
rank Data = 5
rank Where = 6
rank Do = 7
rank Let = 8
rank In = 9
rank Partial = 10
rank The = 11
rank Universe = 12
rank Small = 13
rank Big = 14
rank SmallPath = 15
rank BigPath = 16
rank Wildcard = 17
rank Zero = 18
rank One = 19
rank Natural = 20
rank Negative = 21
rank Text = 22
rank Hole = 23
rank LeftParen = 24
rank RightParen = 25
rank DotParen = 26
rank Arrow = 27
rank LeftArrow = 28
rank FatArrow = 29
rank Colon = 30
rank Equals = 31
rank Backslash = 32
rank LeftBrace = 33
rank RightBrace = 34
rank Other = 35

abbrev pub same : Class → Class → Bool
same c d = nat_eq (rank c) (rank d)

abbrev pub is_open : Class → Bool
is_open = same Open

abbrev pub is_next : Class → Bool
is_next = same Next

abbrev pub is_close : Class → Bool
is_close = same Close

abbrev pub is_module : Class → Bool
is_module = same Module

abbrev pub is_import : Class → Bool
is_import = same Import

abbrev pub is_data : Class → Bool
is_data = same Data

abbrev pub is_where : Class → Bool
is_where = same Where

abbrev pub is_do : Class → Bool
is_do = same Do

abbrev pub is_let : Class → Bool
is_let = same Let

abbrev pub is_in : Class → Bool
is_in = same In

abbrev pub is_partial : Class → Bool
is_partial = same Partial

abbrev pub is_the : Class → Bool
is_the = same The

abbrev pub is_type : Class → Bool
is_type = same Universe

abbrev pub is_wildcard : Class → Bool
is_wildcard = same Wildcard

abbrev pub is_zero : Class → Bool
is_zero = same Zero

abbrev pub is_hole : Class → Bool
is_hole = same Hole

abbrev pub is_left_paren : Class → Bool
is_left_paren = same LeftParen

abbrev pub is_right_paren : Class → Bool
is_right_paren = same RightParen

abbrev pub is_dot_paren : Class → Bool
is_dot_paren = same DotParen

abbrev pub is_arrow : Class → Bool
is_arrow = same Arrow

abbrev pub is_left_arrow : Class → Bool
is_left_arrow = same LeftArrow

abbrev pub is_fat_arrow : Class → Bool
is_fat_arrow = same FatArrow

abbrev pub is_colon : Class → Bool
is_colon = same Colon

abbrev pub is_equals : Class → Bool
is_equals = same Equals

abbrev pub is_backslash : Class → Bool
is_backslash = same Backslash

abbrev pub is_left_brace : Class → Bool
is_left_brace = same LeftBrace

abbrev pub is_right_brace : Class → Bool
is_right_brace = same RightBrace

-- any name
abbrev pub is_name : Class → Bool
is_name Small = true
is_name Big = true
is_name SmallPath = true
is_name BigPath = true
is_name _ = false

-- a name of one part
abbrev pub is_simple : Class → Bool
is_simple Small = true
is_simple Big = true
is_simple _ = false

-- a big name of one part
abbrev pub is_big : Class → Bool
is_big = same Big

-- any big name
abbrev pub is_constructor : Class → Bool
is_constructor Big = true
is_constructor BigPath = true
is_constructor _ = false

-- what a binder may bind
abbrev pub is_bname : Class → Bool
is_bname Small = true
is_bname Big = true
is_bname Wildcard = true
is_bname _ = false

-- a mark of multiplicity
abbrev pub is_digit : Class → Bool
is_digit Zero = true
is_digit One = true
is_digit _ = false

-- a number that isn't negative
abbrev pub is_natural : Class → Bool
is_natural Zero = true
is_natural One = true
is_natural Natural = true
is_natural _ = false

-- what is an atom by itself, but for names
abbrev pub is_word : Class → Bool
is_word Zero = true
is_word One = true
is_word Natural = true
is_word Negative = true
is_word Text = true
is_word Universe = true
is_word _ = false

-- what begins an atom that is no name
abbrev pub starts_other_atom : Class → Bool
starts_other_atom Zero = true
starts_other_atom One = true
starts_other_atom Natural = true
starts_other_atom Negative = true
starts_other_atom Text = true
starts_other_atom Universe = true
starts_other_atom LeftParen = true
starts_other_atom _ = false

-- what begins an atom
abbrev pub starts_atom : Class → Bool
starts_atom Small = true
starts_atom Big = true
starts_atom SmallPath = true
starts_atom BigPath = true
starts_atom Zero = true
starts_atom One = true
starts_atom Natural = true
starts_atom Negative = true
starts_atom Text = true
starts_atom Universe = true
starts_atom LeftParen = true
starts_atom _ = false

-- what begins a binder of a function
abbrev pub starts_binder : Class → Bool
starts_binder Small = true
starts_binder Big = true
starts_binder Wildcard = true
starts_binder LeftParen = true
starts_binder _ = false

-- what is a pattern by itself, but for constructors
abbrev pub is_pattern_word : Class → Bool
is_pattern_word Small = true
is_pattern_word Wildcard = true
is_pattern_word _ = false

-- what begins a pattern
abbrev pub starts_pattern : Class → Bool
starts_pattern Small = true
starts_pattern Wildcard = true
starts_pattern Big = true
starts_pattern BigPath = true
starts_pattern LeftParen = true
starts_pattern DotParen = true
starts_pattern _ = false

-- what opens a nesting level where it begins a statement
abbrev pub opens_statement : Class → Bool
opens_statement Backslash = true
opens_statement Let = true
opens_statement Do = true
opens_statement LeftParen = true
opens_statement _ = false

-- what opens a nesting level where it begins a pattern
abbrev pub opens_pattern : Class → Bool
opens_pattern LeftParen = true
opens_pattern DotParen = true
opens_pattern _ = false

-- what begins an item
abbrev pub starts_item : Class → Bool
starts_item Data = true
starts_item Partial = true
starts_item Zero = true
starts_item Small = true
starts_item Big = true
starts_item _ = false

-- any name, or `_`
abbrev pub is_bound_or_name : Class → Bool
is_bound_or_name Wildcard = true
is_bound_or_name c = is_name c

abbrev pub is_number : Class → Bool
is_number Zero = true
is_number One = true
is_number Natural = true
is_number Negative = true
is_number _ = false
