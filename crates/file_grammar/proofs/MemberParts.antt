-- What the parsers of the parts of declarations meet.
use Rattle.std.proofs.Common.{◌≡◌, ℕ, ◌≤◌, true, false, List, [], ◌∷◌, ◌++◌, Option, Some, None, refl, ap, sym, subst, ◌∙◌, append_assoc, arith}
use Rattle.cm_base.specs.declared.place.Place.{Place}
use Rattle.cm_tree.specs.declared.token.Token.{Token}
use Rattle.cm_tree.specs.declared.sign.Sign.TheVariants as s
use Rattle.cm_tree.specs.declared.path.Word.{Word}
use Rattle.cm_tree.specs.declared.expr.Expr.{Expr}
use Rattle.cm_tree.specs.declared.type_expr.TypeExpr.{TypeExpr}
use Rattle.cm_tree.specs.declared.type_expr.Typed.{Typed}
use Rattle.cm_tree.specs.declared.member.KeyValue.{KeyValue}
use Rattle.cm_tree.specs.declared.member.KeyValue.TheVariants as key
use Rattle.cm_tree.specs.declared.member.Key.{Key}
use Rattle.cm_tree.specs.Heights.{height}
use Rattle.cm_tree.specs.StmtHeights.{type_height, typed_height, key_height}
use Rattle.cm_tree.specs.Lists.{highest, highest-nil, highest-cons, Every, Further, Listed, MaybeListed, Optional}
use Rattle.cm_tree.specs.Lists as lists
use Rattle.cm_tree.specs.Spelling.{IsSign, SpellsExpr, SpellsType}
use Rattle.cm_tree.specs.StmtSpelling.{SpellsWord, SpellsTyped, SpellsInit, SpellsVar, SpellsAssert, SpellsBlock}
use Rattle.cm_tree.specs.StmtSpelling as g
use Rattle.cm_tree.specs.DeclSpelling.{IsText, SpellsKey, SpellsKeys, IsFlow, IsKind, SpellsEndName, SpellsEnd, SpellsEnds, SpellsFields, SpellsShared, SpellsFunction, SpellsNodeArgs, SpellsBracketed, SpellsFactor, SpellsNode, SpellsDotted, SpellsPoint, SpellsDelay, SpellsLink, SpellsLinks, SpellsItem, SpellsProcessorItem, SpellsGraphItem}
use Rattle.cm_tree.specs.DeclSpelling as d
use Rattle.token_reader.specs.Parsers.{Outcome, Parser, and_then, ◌>>=◌, ◌>>◌, pure, see, sees, expect, is_sign, is_other, same_sign}
use Rattle.token_reader.specs.Lists.{separated}
use Rattle.token_reader.specs.Local.{Local, Takes}
use Rattle.token_reader.proofs.Inverses.{seen}
use Rattle.cm_parse_expr.proofs.Next.{Closed, closes, sign_seen}
use Rattle.file_grammar.specs.Words.{typed, in_parentheses, listed_if}
use Rattle.file_grammar.specs.Members.{is_text, in_braces, group, key_value_if, key_value, one_key, keys}
use Rattle.file_grammar.proofs.FarDecls.{local_one_key}
use Rattle.file_grammar.proofs.Meets.{Meets, Any, Not, Is, Ended, meets_pure, meets_optional, meets_while, meets_separated}
use Rattle.file_grammar.proofs.Spelled.{Within, TypeEnds, meets_same, meets_expr, meets_type, meets_word}
use Rattle.file_grammar.proofs.Targets.{seen_skip}
use Rattle.file_grammar.proofs.Shapes.{Signed, signed, Seq, seq, Of, of, Led, led, Choice, one_way, other_way, meets_sign, meets_seq, meets_of, meets_iff, meets_weaker, meets_led, meets_choice, meets_up_to, skip_same, starts_name, type_before_word, then_assoc, nothing_there}
use Rattle.file_grammar.proofs.Lows.{listed_of, of_listed}
use Rattle.file_grammar.proofs.FirstTokens.{First, expr_first, no_text_first, sees_first}
use Rattle.file_grammar.proofs.StmtParts.{Quoted, quoted, meets_text}

-- ---- types with names

abbrev made_typed : TypeExpr → Word → Typed
made_typed ty w = record { ty = ty; name = w }

abbrev TypedBy : ℕ → Typed → List Token → Type 0
TypedBy n = Seq (Within type_height n SpellsType) (λ ty. Of (λ z. made_typed ty z) SpellsWord)

typed_as : (n : ℕ) (a : Typed) (u : List Token) → TypedBy n a u → Within typed_height n SpellsTyped a u
typed_as n _ _ (seq ty _ front _ st (of _ _ (g.word z t is))) = record { spelled = g.typed ty z t front st.spelled is; low = st.low }

as_typed : (n : ℕ) {a : Typed} {u : List Token} → SpellsTyped a u → typed_height a ≤ n → TypedBy n a u
as_typed n (g.typed ty z t front st is) low = seq ty (made_typed ty z) front (t ∷ []) (record { spelled = st; low = low }) (of z (t ∷ []) (g.word z t is))

pub meets_typed : (n : ℕ) → Meets (typed n) (Within typed_height n SpellsTyped) Any Any
unfolding typed
meets_typed n = meets_iff (meets_seq (meets_type n) (λ ty. meets_of {G = Any} {M = Any} (λ z. made_typed ty z) meets_word (λ a r f. tt) (λ a r f. tt)) (λ ty b v r h m. starts_name (TypeEnds ty) (type_before_word ty) b v r h))
    (typed_as n) (λ a u h. as_typed n h.spelled h.low)

-- ---- parts in parentheses

pub data Parens {A : Type 0} (R : A → List Token → Type 0) : List A → List Token → Type 0 where
  parens : (xs : List A) (o v : Token) (inner : List Token) → IsSign s.LeftParenthesis o → MaybeListed R xs inner → IsSign s.RightParenthesis v → Parens R xs (o ∷ (inner ++ v ∷ []))

abbrev nil : {A : Type 0} → Unit {0} → List A
nil y = []

abbrev ParensBy : {A : Type 0} → (A → List Token → Type 0) → List A → List Token → Type 0
ParensBy R = Led s.LeftParenthesis (Choice (Of nil (Signed s.RightParenthesis)) (Seq (Listed R) (λ xs. Of (λ (y : Unit {0}). xs) (Signed s.RightParenthesis))))

parens_of : {A : Type 0} {R : A → List Token → Type 0} (xs : List A) (u : List Token) → ParensBy R xs u → Parens R xs u
parens_of _ _ (led _ o _ io (one_way _ _ (of _ _ (signed _ v iv)))) = parens [] o v [] io lists.none iv
parens_of _ _ (led _ o _ io (other_way _ _ (seq xs _ inner _ h (of _ _ (signed _ v iv))))) = parens xs o v inner io (lists.some xs inner h) iv

of_parens : {A : Type 0} {R : A → List Token → Type 0} (xs : List A) (u : List Token) → Parens R xs u → ParensBy R xs u
of_parens _ _ (parens _ o v _ io lists.none iv) = led [] o (v ∷ []) io (one_way [] (v ∷ []) (of tt (v ∷ []) (signed tt v iv)))
of_parens _ _ (parens _ o v _ io (lists.some xs inner h) iv) = led xs o (inner ++ v ∷ []) io (other_way xs (inner ++ v ∷ []) (seq xs xs inner (v ∷ []) h (of tt (v ∷ []) (signed tt v iv))))

nil_closes : {A : Type 0} (xs : List A) (u r : List Token) → Of nil (Signed s.RightParenthesis) xs u → sees (is_sign s.RightParenthesis) (u ++ r) ≡ true
nil_closes _ _ r (of _ _ (signed _ v iv)) = sign_seen s.RightParenthesis v r iv

listed_opens : {A : Type 0} {R : A → List Token → Type 0} {xs : List A} {u : List Token} → Listed R xs u → ((x : A) (v r : List Token) → R x v → sees (is_sign s.RightParenthesis) (v ++ r) ≡ false) → (r : List Token) → sees (is_sign s.RightParenthesis) (u ++ r) ≡ false
listed_opens (lists.listed x xs first others one rest) apart r = ap (sees (is_sign s.RightParenthesis)) (append_assoc first others r) ∙ apart x first (others ++ r) one

module _ {A : Type 0} (part : Parser A) (local : Local part) {R G : A → List Token → Type 0} (m : Meets part R G Any) (apart : (x : A) (v r : List Token) → R x v → sees (is_sign s.RightParenthesis) (v ++ r) ≡ false) where
  parens_apart : (xs : List A) (u r : List Token) → Seq (Listed R) (λ all. Of (λ (y : Unit {0}). all) (Signed s.RightParenthesis)) xs u → sees (is_sign s.RightParenthesis) (u ++ r) ≡ false
  parens_apart _ _ r (seq xs _ inner back h more) = ap (sees (is_sign s.RightParenthesis)) (append_assoc inner back r) ∙ listed_opens h apart (back ++ r)

  paren_ends : (all : List A) (t : Token) (r : List Token) → IsSign s.RightParenthesis t → Ended (is_sign s.Comma) Any all (t ∷ r)
  unfolding same_sign
  paren_ends all t r is = record { ended = seen (is_sign s.Comma) t r _ is.kind false refl; needs = λ z. tt }

  parens_same : (ts : List Token) → (expect (is_sign s.LeftParenthesis) >> (see (is_sign s.RightParenthesis) >>= listed_if part)) ts ≡ in_parentheses part ts
  unfolding in_parentheses
  parens_same ts = then_assoc (expect (is_sign s.LeftParenthesis) ts) (see (is_sign s.RightParenthesis)) (listed_if part)

  pub meets_in_parentheses : Meets (in_parentheses part) (Parens R) Any Any
  meets_in_parentheses = meets_same parens_same (meets_iff (meets_led s.LeftParenthesis
      (meets_choice (is_sign s.RightParenthesis) (λ ts is. skip_same (is_sign s.RightParenthesis) (pure []) ts is)
      (meets_of {G = Any} {M = Any} nil (meets_sign s.RightParenthesis) (λ a r f. tt) (λ a r f. tt))
      (meets_up_to (meets_separated part local m (λ x t r is. tt)) paren_ends)
      (λ a u r h z. nil_closes a u r h) (λ a u r h z. parens_apart a u r h) (λ a r z. z) (λ a r z. z)))
      parens_of of_parens)

-- ---- parts in braces

abbrev pub Braces : {A : Type 0} → (A → List Token → Type 0) → List A → List Token → Type 0
Braces R = Seq (Every R) (λ all. Of (λ (y : Unit {0}). all) (Signed s.RightBrace))

module _ {A : Type 0} (part : Parser A) (local : Local part) (takes : Takes part) {R G : A → List Token → Type 0} (m : Meets part R G Any) (first : (x : A) (v : List Token) → R x v → First (is_other s.RightBrace) v) where
  brace_ends : (all : List A) (t : Token) (r : List Token) → IsSign s.RightBrace t → Ended (is_other s.RightBrace) Any all (t ∷ r)
  unfolding same_sign
  brace_ends all t r is = record { ended = seen (is_other s.RightBrace) t r _ is.kind false refl; needs = λ z. tt }

  pub meets_in_braces : Meets (in_braces part) (Braces R) Any Any
  unfolding in_braces
  meets_in_braces = meets_up_to (meets_while (is_other s.RightBrace) part local takes m (λ x v r h. sees_first (first x v h) r) (λ x y v r h. tt)) brace_ends

  led_opens : (a : List A) (u r : List Token) → Led s.LeftBrace (Braces R) a u → sees (is_sign s.LeftBrace) (u ++ r) ≡ true
  led_opens _ _ r (led a t u is h) = sign_seen s.LeftBrace t (u ++ r) is

  one_apart : ((x : A) (v r : List Token) → R x v → sees (is_sign s.LeftBrace) (v ++ r) ≡ false) → (a : List A) (u r : List Token) → Of (λ x. x ∷ []) R a u → sees (is_sign s.LeftBrace) (u ++ r) ≡ false
  one_apart apart _ _ r (of x u h) = apart x u r h

  -- one part, or several in braces
  pub meets_group : ((x : A) (v r : List Token) → R x v → sees (is_sign s.LeftBrace) (v ++ r) ≡ false) → Meets (group part) (Choice (Led s.LeftBrace (Braces R)) (Of (λ x. x ∷ []) R)) Any Any
  unfolding group
  meets_group apart = meets_choice (is_sign s.LeftBrace) (λ ts is. skip_same (is_sign s.LeftBrace) (in_braces part) ts is)
      (meets_led s.LeftBrace meets_in_braces)
      (meets_of {G = Any} {M = Any} (λ x. x ∷ []) m (λ a r f. tt) (λ a r f. tt))
      (λ a u r h z. led_opens a u r h) (λ a u r h z. one_apart apart a u r h) (λ a r z. z) (λ a r z. z)

-- ---- annotations

abbrev made_key : Word → Option KeyValue → Key
made_key w v = record { name = w; value = v }

-- what follows neither begins a value nor goes on with one
pub record KeyEnds {A : Type 0} (a : A) (r : List Token) : Type 0 where
  pub no_value : sees (is_sign s.Colon) r ≡ false
  pub closed : (x : Expr) → Closed x r

abbrev text_value : Place × List ℕ → KeyValue
text_value t = key.Text t.0 t.1

abbrev KeyValueBy : ℕ → KeyValue → List Token → Type 0
KeyValueBy n = Led s.Colon (Choice (Of text_value Quoted) (Of (λ x. key.Value x) (Within height n SpellsExpr)))

text_opens : (a : KeyValue) (u r : List Token) → Of text_value Quoted a u → sees is_text (u ++ r) ≡ true
text_opens _ _ r (of _ _ (quoted t bytes is)) = seen is_text t r _ is true refl

value_opens : (n : ℕ) (a : KeyValue) (u r : List Token) → Of (λ x. key.Value x) (Within height n SpellsExpr) a u → sees is_text (u ++ r) ≡ false
value_opens n _ _ r (of x u h) = no_text_first (expr_first h.spelled) r

key_value_same : (n : ℕ) (ts : List Token) → (expect (is_sign s.Colon) >> (see is_text >>= key_value_if n)) ts ≡ key_value n ts
unfolding key_value
key_value_same n ts = then_assoc (expect (is_sign s.Colon) ts) (see is_text) (key_value_if n)

meets_key_value : (n : ℕ) → Meets (key_value n) (KeyValueBy n) Any KeyEnds
meets_key_value n = meets_same (key_value_same n) (meets_led s.Colon
    (meets_choice is_text (λ ts is. refl)
    (meets_of {G = Any} {M = KeyEnds} text_value meets_text (λ a r f. tt) (λ a r f. tt))
    (meets_of {G = Any} {M = KeyEnds} (λ x. key.Value x) (meets_expr n) (λ a r f. tt) (λ a r f. f.closed a))
    (λ a u r h z. text_opens a u r h) (λ a u r h z. value_opens n a u r h) (λ a r z. z) (λ a r z. z)))

value_led : (n : ℕ) (x : KeyValue) (v r : List Token) → KeyValueBy n x v → sees (is_sign s.Colon) (v ++ r) ≡ true
value_led n _ _ r (led _ t u is h) = sign_seen s.Colon t (u ++ r) is

abbrev KeyBy : ℕ → Key → List Token → Type 0
KeyBy n = Seq SpellsWord (λ z. Of (λ v. made_key z v) (Optional (KeyValueBy n)))

key_as : (n : ℕ) (a : Key) (u : List Token) → KeyBy n a u → Within key_height n SpellsKey a u
key_as n _ _ (seq _ _ _ _ (g.word z t is) (of _ _ lists.absent)) = record { spelled = d.bare z t is; low = omega arith }
key_as n _ _ (seq _ _ _ _ (g.word z t is) (of _ _ (lists.present _ _ (led _ colon _ ic (one_way _ _ (of _ _ (quoted v bytes iv))))))) = record { spelled = d.text z bytes t colon v is ic iv; low = omega arith }
key_as n _ _ (seq _ _ _ _ (g.word z t is) (of _ _ (lists.present _ _ (led _ colon _ ic (other_way _ _ (of x u h)))))) = record { spelled = d.value z x t colon u is ic h.spelled; low = h.low }

as_key : (n : ℕ) {a : Key} {u : List Token} → SpellsKey a u → key_height a ≤ n → KeyBy n a u
as_key n (d.bare z t is) low = seq z (made_key z None) (t ∷ []) [] (g.word z t is) (of None [] lists.absent)
as_key n (d.value z x t colon others is ic sx) low =
    seq z (made_key z (Some (key.Value x))) (t ∷ []) (colon ∷ others) (g.word z t is)
    (of (Some (key.Value x)) (colon ∷ others) (lists.present (key.Value x) (colon ∷ others) (led (key.Value x) colon others ic (other_way (key.Value x) others (of x others (record { spelled = sx; low = low }))))))
as_key n (d.text z b t colon v is ic iv) low =
    seq z (made_key z (Some (key.Text v.place b))) (t ∷ []) (colon ∷ v ∷ []) (g.word z t is)
    (of (Some (key.Text v.place b)) (colon ∷ v ∷ []) (lists.present (key.Text v.place b) (colon ∷ v ∷ []) (led (key.Text v.place b) colon (v ∷ []) ic (one_way (key.Text v.place b) (v ∷ []) (of (v.place, b) (v ∷ []) (quoted v b iv))))))

key_ends : {A B : Type 0} (a : A) (b : B) (r : List Token) → KeyEnds a r → KeyEnds b r
key_ends a b r h = record { no_value = h.no_value; closed = h.closed }

meets_one_key : (n : ℕ) → Meets (one_key n) (Within key_height n SpellsKey) Any KeyEnds
unfolding one_key
meets_one_key n = meets_iff
    (meets_seq meets_word (λ z. meets_of {G = Any} {M = KeyEnds} (λ v. made_key z v) (meets_optional (is_sign s.Colon) KeyEnds (meets_key_value n) (value_led n) (λ r h. h.no_value) (λ x r h. key_ends (Some x) x r h)) (λ a r f. tt) (λ a r f. key_ends (made_key z a) a r f)) (λ z b v r h m. tt))
    (key_as n) (λ a u h. as_key n h.spelled h.low)

key_commas : (x : Key) (t : Token) (r : List Token) → IsSign s.Comma t → KeyEnds x (t ∷ r)
unfolding same_sign
key_commas x t r is = record { no_value = seen (is_sign s.Colon) t r _ is.kind false refl; closed = λ z. closes s.Comma refl t r z is }

keys_end : (all : List Key) (t : Token) (r : List Token) → IsSign s.RightBracket t → Ended (is_sign s.Comma) KeyEnds all (t ∷ r)
unfolding same_sign
keys_end all t r is = record { ended = seen (is_sign s.Comma) t r _ is.kind false refl; needs = λ x. record { no_value = seen (is_sign s.Colon) t r _ is.kind false refl; closed = λ z. closes s.RightBracket refl t r z is } }

abbrev KeysInside : ℕ → List Key → List Token → Type 0
KeysInside n = Seq (Seq (Led s.LeftBracket (Signed s.LeftBracket)) (λ (y : Unit {0}). Listed (Within key_height n SpellsKey))) (λ all. Of (λ (y : Unit {0}). all) (Led s.RightBracket (Signed s.RightBracket)))

keys_before : (all : List Key) (b : List Key) (v r : List Token) → Of (λ (y : Unit {0}). all) (Led s.RightBracket (Signed s.RightBracket)) b v → Ended (is_sign s.Comma) KeyEnds all (v ++ r)
keys_before all _ _ r (of _ _ (led _ t u is h)) = keys_end all t (u ++ r) is

meets_keys_inside : (n : ℕ) → Meets (expect (is_sign s.LeftBracket) >> expect (is_sign s.LeftBracket) >> separated (is_sign s.Comma) (one_key n) >>= (λ all. expect (is_sign s.RightBracket) >> expect (is_sign s.RightBracket) >> pure all)) (KeysInside n) Any Any
meets_keys_inside n = meets_seq
    (meets_seq (meets_led s.LeftBracket (meets_sign s.LeftBracket)) (λ y. meets_separated (one_key n) (local_one_key n) (meets_one_key n) key_commas) (λ y b v r h m. tt))
    (λ all. meets_of {G = Any} {M = Any} (λ (y : Unit {0}). all) (meets_led s.RightBracket (meets_sign s.RightBracket)) (λ a r f. tt) (λ a r f. tt))
    (λ all b v r h m. keys_before all b v r h)

inside_opens : (n : ℕ) (a : List Key) (u r : List Token) → KeysInside n a u → sees (is_sign s.LeftBracket) (u ++ r) ≡ true
inside_opens n _ _ r (seq _ _ _ _ (seq _ _ _ _ (led _ o _ io (signed _ v iv)) h) more) = sign_seen s.LeftBracket o _ io

keys_as : (n : ℕ) (a : List Key) (u : List Token) → Choice (KeysInside n) (Is []) a u → Within (highest key_height) n SpellsKeys a u
keys_as n _ _ (one_way _ _ (seq _ _ _ _ (seq _ all _ inner (led _ o _ io (signed _ v iv)) h) (of _ _ (led _ p _ ip (signed _ q iq))))) =
    let low = listed_of key_height n SpellsKey h in
    record { spelled = d.some all o v p q inner io iv low.spelled ip iq; low = low.low }
keys_as n a u (other_way _ _ h) = subst (λ (l : List Token). Within (highest key_height) n SpellsKeys a l) (sym h.none) (subst (λ (x : List Key). Within (highest key_height) n SpellsKeys x []) (sym h.same) (record { spelled = d.none; low = omega (arith, highest-nil key_height) }))

as_keys : (n : ℕ) {a : List Key} {u : List Token} → SpellsKeys a u → highest key_height a ≤ n → Choice (KeysInside n) (Is []) a u
as_keys n d.none low = other_way [] [] (record { same = refl; none = refl })
as_keys n (d.some all o v p q inner io iv h ip iq) low =
    one_way all (o ∷ v ∷ (inner ++ p ∷ q ∷ []))
    (seq all all (o ∷ v ∷ inner) (p ∷ q ∷ []) (seq tt all (o ∷ v ∷ []) inner (led tt o (v ∷ []) io (signed tt v iv)) (of_listed key_height n SpellsKey h low)) (of tt (p ∷ q ∷ []) (led tt p (q ∷ []) ip (signed tt q iq))))

abbrev no_key : List Key
no_key = []

no_keys : Meets (pure no_key) (Is []) Any (Not (is_sign s.LeftBracket))
no_keys = meets_weaker (meets_pure no_key) (λ a r f. tt) (λ a r m. tt)

pub meets_keys : (n : ℕ) → Meets (keys n) (Within (highest key_height) n SpellsKeys) Any (Not (is_sign s.LeftBracket))
unfolding keys
meets_keys n = meets_iff
    (meets_choice (is_sign s.LeftBracket)
    (λ ts is. ap (λ (o : Outcome (Unit {0})). and_then (and_then (and_then o (λ y. expect (is_sign s.LeftBracket))) (λ y. separated (is_sign s.Comma) (one_key n))) (λ all. expect (is_sign s.RightBracket) >> expect (is_sign s.RightBracket) >> pure all)) (seen_skip (is_sign s.LeftBracket) ts is))
    (meets_keys_inside n) (no_keys) (λ a u r h z. inside_opens n a u r h) (λ a u r h z. nothing_there s.LeftBracket a [] u r h z) (λ a r z. tt) (λ a r z. z))
    (keys_as n) (λ a u h. as_keys n h.spelled h.low)
