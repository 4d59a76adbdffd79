-- What the parsers of endpoints, of shared declarations and of functions meet.
use Rattle.std.proofs.Common.{◌≡◌, ℕ, suc, ◌≤◌, Bool, true, false, cond, codes, List, [], ◌∷◌, ◌++◌, Option, Some, None, refl, ap, sym, subst, ◌∙◌, append_assoc, arith}
use Rattle.cm_base.specs.declared.place.Place.{Place}
use Rattle.cm_base.specs.declared.host.Flow.{Flow}
use Rattle.cm_base.specs.declared.host.Kind.{Kind}
use Rattle.cm_base.specs.declared.host.Kind.TheVariants as kind
use Rattle.cm_tree.specs.declared.token.Token.{Token}
use Rattle.cm_tree.specs.declared.token.TokenKind.{TokenKind}
use Rattle.cm_tree.specs.declared.token.TokenKind.TheVariants as k
use Rattle.cm_tree.specs.declared.sign.Sign.TheVariants as s
use Rattle.cm_tree.specs.declared.reserved.Reserved.TheVariants as w
use Rattle.cm_tree.specs.declared.path.Word.{Word}
use Rattle.cm_tree.specs.declared.type_expr.TypeExpr.{TypeExpr}
use Rattle.cm_tree.specs.declared.type_expr.Typed.{Typed}
use Rattle.cm_tree.specs.declared.simple.Init.{Init}
use Rattle.cm_tree.specs.declared.stmt.Block.{Block}
use Rattle.cm_tree.specs.declared.shared.Fields.{Fields}
use Rattle.cm_tree.specs.declared.shared.Shared.{Shared}
use Rattle.cm_tree.specs.declared.shared.Shared.TheVariants as shared
use Rattle.cm_tree.specs.declared.shared.Function.{Function}
use Rattle.cm_tree.specs.declared.member.Key.{Key}
use Rattle.cm_tree.specs.declared.member.EndName.{EndName}
use Rattle.cm_tree.specs.declared.member.End.{End}
use Rattle.cm_tree.specs.declared.member.Member.{Member}
use Rattle.cm_tree.specs.declared.member.Member.TheVariants as member
use Rattle.cm_tree.specs.StmtHeights.{type_height, typed_height, init_height, block_height, fields_height, shared_height, function_height, key_height, end_name_height, end_height, member_height}
use Rattle.cm_tree.specs.Lists.{highest, highest-nil, highest-cons, Every, Further, Listed, MaybeListed, Optional}
use Rattle.cm_tree.specs.Lists as lists
use Rattle.cm_tree.specs.Spelling.{IsSign, IsReserved, IsWord, SpellsType}
use Rattle.cm_tree.specs.StmtSpelling.{SpellsWord, SpellsTyped, SpellsInit, SpellsVar, SpellsAssert, SpellsBlock}
use Rattle.cm_tree.specs.StmtSpelling as g
use Rattle.cm_tree.specs.DeclSpelling.{IsText, SpellsKey, SpellsKeys, IsFlow, IsKind, SpellsEndName, SpellsEnd, SpellsEnds, SpellsFields, SpellsShared, SpellsFunction, SpellsNodeArgs, SpellsBracketed, SpellsFactor, SpellsNode, SpellsDotted, SpellsPoint, SpellsDelay, SpellsLink, SpellsLinks, SpellsItem, SpellsProcessorItem, SpellsGraphItem}
use Rattle.cm_tree.specs.DeclSpelling as d
use Rattle.token_reader.specs.Parsers.{◌>>=◌, ◌>>◌, look, sees, skip, is_sign, is_word, is_other, same_sign}
use Rattle.token_reader.proofs.Inverses.{answer, seen, word_is, word_same}
use Rattle.cm_parse_expr.specs.Reading.{type_expr}
use Rattle.file_grammar.specs.Words.{word, typed}
use Rattle.file_grammar.specs.Members.{end_name, kind_of, end_names, end_by, one_end, ends, fields, structure, alias, constants, asserted, function_of, void_function}
use Rattle.file_grammar.proofs.Far.{local_typed, local_word}
use Rattle.file_grammar.proofs.FarDecls.{local_end_name, local_one_end, takes_one_end, local_fields, takes_fields}
use Rattle.file_grammar.proofs.Meets.{Found, Meets, Any, Ended, meets_separated}
use Rattle.file_grammar.proofs.Spelled.{Within, TypeEnds, InitEnds, meets_same, meets_type, meets_word, meets_inits}
use Rattle.file_grammar.proofs.Shapes.{signed, Seq, seq, Of, of, Led, led, Semi, semi, Choice, one_way, other_way, meets_seq, meets_of, meets_iff, meets_led, meets_semicolon, starts_semi, type_before_word, skip_then_found, skip_then_read}
use Rattle.file_grammar.proofs.Lows.{every_of, of_every, listed_of, of_listed, maybe_of, of_maybe}
use Rattle.file_grammar.proofs.FirstTokens.{First, begins_expr, first_is, first_append, type_first, no_sign_first, type_other}
use Rattle.file_grammar.proofs.Changes.{stops_semicolon}
use Rattle.file_grammar.proofs.StmtParts.{Asserting, meets_assertion, assert_as}
use Rattle.file_grammar.proofs.Statements.{meets_body}
use Rattle.file_grammar.proofs.MemberParts.{Parens, parens, Braces, meets_typed, meets_in_parentheses, meets_in_braces, meets_group, meets_keys}

-- ---- endpoints

abbrev made_end_name : Word → List Key → EndName
made_end_name z all = record { name = z; keys = all }

abbrev EndNameBy : ℕ → EndName → List Token → Type 0
EndNameBy n = Seq SpellsWord (λ z. Of (λ all. made_end_name z all) (Within (highest key_height) n SpellsKeys))

end_name_as : (n : ℕ) (a : EndName) (u : List Token) → EndNameBy n a u → Within end_name_height n SpellsEndName a u
end_name_as n _ _ (seq _ _ _ _ (g.word z t is) (of all others h)) = record { spelled = d.name z all t others is h.spelled; low = h.low }

as_end_name : (n : ℕ) {a : EndName} {u : List Token} → SpellsEndName a u → end_name_height a ≤ n → EndNameBy n a u
as_end_name n (d.name z all t others is h) low = seq z (made_end_name z all) (t ∷ []) others (g.word z t is) (of all others (record { spelled = h; low = low }))

abbrev NoBracket : {A : Type 0} → A → List Token → Type 0
NoBracket a r = sees (is_sign s.LeftBracket) r ≡ false

meets_end_name : (n : ℕ) → Meets (end_name n) (Within end_name_height n SpellsEndName) Any NoBracket
unfolding end_name
meets_end_name n = meets_iff (meets_seq meets_word (λ z. meets_of {G = Any} {M = NoBracket} (λ all. made_end_name z all) (meets_keys n) (λ a r f. tt) (λ a r f. f)) (λ z b v r h m. tt))
    (end_name_as n) (λ a u h. as_end_name n h.spelled h.low)

name_commas : (x : EndName) (t : Token) (r : List Token) → IsSign s.Comma t → sees (is_sign s.LeftBracket) (t ∷ r) ≡ false
unfolding same_sign
name_commas x t r is = seen (is_sign s.LeftBracket) t r _ is.kind false refl

names_end : (all : List EndName) (t : Token) (r : List Token) → IsSign s.Semicolon t → Ended (is_sign s.Comma) NoBracket all (t ∷ r)
unfolding same_sign
names_end all t r is = record { ended = seen (is_sign s.Comma) t r _ is.kind false refl; needs = λ x. seen (is_sign s.LeftBracket) t r _ is.kind false refl }

abbrev made_end : Place → Kind → TypeExpr → List EndName → End
made_end p which ty names = record { place = p; kind = which; ty = ty; names = names }

abbrev NamesBy : ℕ → Place → Kind → TypeExpr → End → List Token → Type 0
NamesBy n p which ty = Seq (Listed (Within end_name_height n SpellsEndName)) (λ names. Semi (made_end p which ty names))

meets_end_names : (n : ℕ) (p : Place) (which : Kind) (ty : TypeExpr) → Meets (end_names n p which ty) (NamesBy n p which ty) Any Any
unfolding end_names
meets_end_names n p which ty = meets_seq (meets_separated (end_name n) (local_end_name n) (meets_end_name n) name_commas) (λ names. meets_semicolon (made_end p which ty names))
    (λ names b v r h m. starts_semi (Ended (is_sign s.Comma) NoBracket names) (made_end p which ty names) b (names_end names) v r h)

abbrev EndBy : ℕ → Place → Kind → End → List Token → Type 0
EndBy n p which = Seq (Within type_height n SpellsType) (λ ty. NamesBy n p which ty)

first_word : {a : EndName} {u : List Token} → SpellsEndName a u → (others : List Token) (P : List Token → Type 0) → ((t : Token) (ts : List Token) (text : List ℕ) → t.kind ≡ k.Word text → P (t ∷ ts)) → (r : List Token) → P ((u ++ others) ++ r)
first_word (d.name z all t back is h) others P i r = i t ((back ++ others) ++ r) z.text is.kind

end_word : {n : ℕ} {xs : List EndName} {u : List Token} → Listed (Within end_name_height n SpellsEndName) xs u → (P : List Token → Type 0) → ((t : Token) (ts : List Token) (text : List ℕ) → t.kind ≡ k.Word text → P (t ∷ ts)) → (r : List Token) → P (u ++ r)
end_word (lists.listed v xs first others one rest) P i r = first_word one.spelled others P i r

names_word : {n : ℕ} {p : Place} {which : Kind} {ty : TypeExpr} (b : End) (v : List Token) → NamesBy n p which ty b v → (P : List Token → Type 0) → ((t : Token) (ts : List Token) (text : List ℕ) → t.kind ≡ k.Word text → P (t ∷ ts)) → (r : List Token) → P (v ++ r)
names_word _ _ (seq names _ others back hn more) P i r = subst P (sym (append_assoc others back r)) (end_word hn P i (back ++ r))

meets_end_rest : (n : ℕ) (p : Place) (which : Kind) → Meets (type_expr n >>= end_names n p which) (EndBy n p which) Any Any
meets_end_rest n p which = meets_seq (meets_type n) (λ ty. meets_end_names n p which ty) (λ ty b v r h m. names_word b v h (TypeEnds ty) (type_before_word ty) r)

kind_word : (name : List ℕ) (a b : Bool) → is_word (codes "stream") (k.Word name) ≡ a → is_word (codes "value") (k.Word name) ≡ b → (which : Kind) → cond a (Some kind.Stream) (cond b (Some kind.Value) None) ≡ Some which → (t : Token) → t.kind ≡ k.Word name → IsKind which t
kind_word name true b one two which is t at = let same : kind.Stream ≡ which = cc in subst (λ (z : Kind). IsKind z t) same (d.stream t (record { kind = at ∙ word_is (codes "stream") (k.Word name) one }))
kind_word name false true one two which is t at = let same : kind.Value ≡ which = cc in subst (λ (z : Kind). IsKind z t) same (d.value t (record { kind = at ∙ word_is (codes "value") (k.Word name) two }))
kind_word name false false one two which is t at = absurd cc

kind_event : (which : Kind) → Some kind.Event ≡ Some which → (t : Token) → t.kind ≡ k.Reserved w.Event → IsKind which t
kind_event which is t at = let same : kind.Event ≡ which = cc in subst (λ (z : Kind). IsKind z t) same (d.event t (record { kind = at }))

kind_found : (t : Token) (z : TokenKind) → t.kind ≡ z → (which : Kind) → kind_of z ≡ Some which → IsKind which t
kind_found t (k.Word name) at which is = kind_word name (is_word (codes "stream") (k.Word name)) (is_word (codes "value") (k.Word name)) refl refl which is t at
kind_found t (k.Reserved w.Event) at which is = kind_event which is t at
kind_found t _ at which is = absurd cc

abbrev if_value : TokenKind → Option Kind
if_value z = cond (is_word (codes "value") z) (Some kind.Value) None

kind_there : {which : Kind} {t : Token} → IsKind which t → kind_of t.kind ≡ Some which
kind_there (d.stream t is) = ap kind_of is.kind ∙ ap (λ (b : Bool). cond b (Some kind.Stream) (if_value (k.Word (codes "stream")))) (word_same (codes "stream"))
kind_there (d.value t is) =
    let not_stream : is_word (codes "stream") (k.Word (codes "value")) ≡ false = refl in
    ap kind_of is.kind ∙ ap (λ (b : Bool). cond b (Some kind.Stream) (if_value (k.Word (codes "value")))) not_stream ∙ ap (λ (b : Bool). cond b (Some kind.Value) None) (word_same (codes "value"))
kind_there (d.event t is) = ap kind_of is.kind

end_as : (n : ℕ) (t : Token) (which : Kind) → IsKind which t → (a : End) (u : List Token) → EndBy n t.place which a u → Within end_height n SpellsEnd a (t ∷ u)
end_as n t which is _ _ (seq ty _ front _ st (seq names _ others _ hn (semi v iv))) =
    let all = listed_of end_name_height n SpellsEndName hn in
    record { spelled = d.end which ty names t v front others is st.spelled all.spelled iv; low = omega (arith, st.low, all.low) }

end_found_by : (n : ℕ) (t : Token) (ts : List Token) (a : End) (r : List Token) (o : Option Kind) → kind_of t.kind ≡ o → end_by n t.place o (t ∷ ts) ≡ answer a r → Found (Within end_height n SpellsEnd) Any (t ∷ ts) a r
end_found_by n t ts a r None is h = absurd cc
end_found_by n t ts a r (Some which) is h = skip_then_found (type_expr n) (end_names n t.place which) (meets_end_rest n t.place which) t ts a r h (end_as n t which (kind_found t t.kind refl which is))

end_found : (n : ℕ) (ts : List Token) (a : End) (r : List Token) → one_end n ts ≡ answer a r → Found (Within end_height n SpellsEnd) Any ts a r
unfolding one_end look
end_found n [] a r h = absurd cc
end_found n (t ∷ ts) a r h = end_found_by n t ts a r (kind_of t.kind) refl h

end_by_at : (n : ℕ) (t : Token) (ts : List Token) (which : Kind) → kind_of t.kind ≡ Some which → one_end n (t ∷ ts) ≡ (skip >> type_expr n >>= end_names n t.place which) (t ∷ ts)
unfolding one_end look
end_by_at n t ts which is = ap (λ (o : Option Kind). end_by n t.place o (t ∷ ts)) is

end_read : (n : ℕ) {a : End} {u : List Token} → SpellsEnd a u → end_height a ≤ n → (r : List Token) → one_end n (u ++ r) ≡ answer a r
end_read n (d.end which ty names t v front others is st hn iv) low r =
    end_by_at n t _ which (kind_there is)
    ∙ skip_then_read (type_expr n) (end_names n t.place which) (meets_end_rest n t.place which) t (made_end t.place which ty names) (front ++ (others ++ v ∷ [])) r
    (seq ty (made_end t.place which ty names) front (others ++ v ∷ []) (record { spelled = st; low = omega arith })
    (seq names (made_end t.place which ty names) others (v ∷ []) (of_listed end_name_height n SpellsEndName hn (omega arith)) (semi v iv))) tt

meets_one_end : (n : ℕ) → Meets (one_end n) (Within end_height n SpellsEnd) Any Any
meets_one_end n = record { sound = end_found n; complete = λ a u r h any. end_read n h.spelled h.low r }

kind_first : {which : Kind} {t : Token} → IsKind which t → (ts : List Token) → First (is_other s.RightBrace) (t ∷ ts)
kind_first (d.stream t is) ts = first_is (is_other s.RightBrace) t ts _ is.kind refl
kind_first (d.value t is) ts = first_is (is_other s.RightBrace) t ts _ is.kind refl
kind_first (d.event t is) ts = first_is (is_other s.RightBrace) t ts _ is.kind refl

end_first : {a : End} {u : List Token} → SpellsEnd a u → First (is_other s.RightBrace) u
end_first (d.end which ty names t v front others is st hn iv) = kind_first is (front ++ (others ++ v ∷ []))

kind_no_brace : {which : Kind} {t : Token} → IsKind which t → (ts : List Token) → sees (is_sign s.LeftBrace) (t ∷ ts) ≡ false
kind_no_brace (d.stream t is) ts = seen (is_sign s.LeftBrace) t ts _ is.kind false refl
kind_no_brace (d.value t is) ts = seen (is_sign s.LeftBrace) t ts _ is.kind false refl
kind_no_brace (d.event t is) ts = seen (is_sign s.LeftBrace) t ts _ is.kind false refl

end_no_brace : {a : End} {u : List Token} → SpellsEnd a u → (r : List Token) → sees (is_sign s.LeftBrace) (u ++ r) ≡ false
end_no_brace (d.end which ty names t v front others is st hn iv) r = kind_no_brace is ((front ++ (others ++ v ∷ [])) ++ r)

abbrev pub EndsBy : ℕ → Place → Flow → Member → List Token → Type 0
EndsBy n p way = Of (λ all. member.Ends p way all) (Choice (Led s.LeftBrace (Braces (Within end_height n SpellsEnd))) (Of (λ x. x ∷ []) (Within end_height n SpellsEnd)))

pub meets_ends : (n : ℕ) (p : Place) (way : Flow) → Meets (ends n p way) (EndsBy n p way) Any Any
unfolding ends
meets_ends n p way = meets_of {G = Any} {M = Any} (λ all. member.Ends p way all)
    (meets_group (one_end n) (local_one_end n) (takes_one_end n) (meets_one_end n) (λ x v h. end_first h.spelled) (λ x v r h. end_no_brace h.spelled r)) (λ a r f. tt) (λ a r f. tt)

pub ends_as : (n : ℕ) (t : Token) (way : Flow) → IsFlow way t → (a : Member) (u : List Token) → EndsBy n t.place way a u → Within member_height (suc n) SpellsItem a (t ∷ u)
ends_as n t way is _ _ (of _ _ (one_way _ _ (led _ o _ io (seq all _ inner _ h (of _ _ (signed _ v iv)))))) =
    let rows = every_of end_height n SpellsEnd h in
    record { spelled = d.ends way all t (o ∷ (inner ++ v ∷ [])) is (d.several all o v inner io rows.spelled iv); low = omega (arith, rows.low) }
ends_as n t way is _ _ (of _ _ (other_way _ _ (of x u h))) =
    record { spelled = d.ends way (x ∷ []) t u is (d.one x u h.spelled); low = omega (arith, highest-cons end_height x [], highest-nil end_height, h.low) }

pub as_ends : (n : ℕ) (p : Place) (way : Flow) {all : List End} {u : List Token} → SpellsEnds all u → highest end_height all ≤ n → EndsBy n p way (member.Ends p way all) u
as_ends n p way (d.one x tokens h) low = of (x ∷ []) tokens (other_way (x ∷ []) tokens (of x tokens (record { spelled = h; low = omega (arith, highest-cons end_height x [], highest-nil end_height) })))
as_ends n p way (d.several all o v inner io h iv) low =
    of all (o ∷ (inner ++ v ∷ [])) (one_way all (o ∷ (inner ++ v ∷ [])) (led all o (inner ++ v ∷ []) io (seq all all inner (v ∷ []) (of_every end_height n SpellsEnd h low) (of tt (v ∷ []) (signed tt v iv)))))

-- ---- declarations of every place

abbrev pub made_fields : TypeExpr → List Word → Fields
made_fields ty names = record { ty = ty; names = names }

abbrev FieldsBy : ℕ → Fields → List Token → Type 0
FieldsBy n = Seq (Within type_height n SpellsType) (λ ty. Seq (Listed SpellsWord) (λ names. Semi (made_fields ty names)))

fields_as : (n : ℕ) (a : Fields) (u : List Token) → FieldsBy n a u → Within fields_height n SpellsFields a u
fields_as n _ _ (seq ty _ front _ st (seq names _ others _ hn (semi v iv))) = record { spelled = d.fields ty names v front others st.spelled hn iv; low = st.low }

as_fields : (n : ℕ) {a : Fields} {u : List Token} → SpellsFields a u → fields_height a ≤ n → FieldsBy n a u
as_fields n (d.fields ty names v front others st hn iv) low = seq ty (made_fields ty names) front (others ++ v ∷ []) (record { spelled = st; low = low }) (seq names (made_fields ty names) others (v ∷ []) hn (semi v iv))

words_first : {xs : List Word} {u : List Token} → Listed SpellsWord xs u → (P : List Token → Type 0) → ((t : Token) (ts : List Token) (text : List ℕ) → t.kind ≡ k.Word text → P (t ∷ ts)) → (r : List Token) → P (u ++ r)
words_first (lists.listed _ xs _ others (g.word z t is) rest) P i r = i t (others ++ r) z.text is.kind

fields_word : {ty : TypeExpr} (b : Fields) (v : List Token) → Seq (Listed SpellsWord) (λ names. Semi (made_fields ty names)) b v → (P : List Token → Type 0) → ((t : Token) (ts : List Token) (text : List ℕ) → t.kind ≡ k.Word text → P (t ∷ ts)) → (r : List Token) → P (v ++ r)
fields_word _ _ (seq names _ others back hn more) P i r = subst P (sym (append_assoc others back r)) (words_first hn P i (back ++ r))

words_end : (all : List Word) (t : Token) (r : List Token) → IsSign s.Semicolon t → Ended (is_sign s.Comma) Any all (t ∷ r)
unfolding same_sign
words_end all t r is = record { ended = seen (is_sign s.Comma) t r _ is.kind false refl; needs = λ x. tt }

meets_fields : (n : ℕ) → Meets (fields n) (Within fields_height n SpellsFields) Any Any
unfolding fields
meets_fields n = meets_iff
    (meets_seq (meets_type n)
    (λ ty. meets_seq (meets_separated word local_word meets_word (λ x t r is. tt)) (λ names. meets_semicolon (made_fields ty names)) (λ names b v r h m. starts_semi (Ended (is_sign s.Comma) Any names) (made_fields ty names) b (words_end names) v r h))
    (λ ty b v r h m. fields_word b v h (TypeEnds ty) (type_before_word ty) r))
    (fields_as n) (λ a u h. as_fields n h.spelled h.low)

fields_first : {a : Fields} {u : List Token} → SpellsFields a u → First (is_other s.RightBrace) u
fields_first (d.fields ty names v front others st hn iv) = first_append (type_other st) (others ++ v ∷ [])

abbrev pub StructBy : ℕ → Place → Shared → List Token → Type 0
StructBy n p = Seq SpellsWord (λ z. Of (λ all. shared.Struct p z all) (Led s.LeftBrace (Braces (Within fields_height n SpellsFields))))

pub meets_structure : (n : ℕ) (p : Place) → Meets (structure n p) (StructBy n p) Any Any
unfolding structure
meets_structure n p = meets_seq meets_word
    (λ z. meets_of {G = Any} {M = Any} (λ all. shared.Struct p z all) (meets_led s.LeftBrace (meets_in_braces (fields n) (local_fields n) (takes_fields n) (meets_fields n) (λ x v h. fields_first h.spelled))) (λ a r f. tt) (λ a r f. tt))
    (λ z b v r h m. tt)

pub struct_as : (n : ℕ) (t : Token) → IsReserved w.Struct t → (a : Shared) (u : List Token) → StructBy n t.place a u → Within shared_height (suc n) SpellsShared a (t ∷ u)
struct_as n t is _ _ (seq _ _ _ _ (g.word z v iv) (of _ _ (led _ o _ io (seq all _ inner _ h (of _ _ (signed _ q iq)))))) =
    let rows = every_of fields_height n SpellsFields h in
    record { spelled = d.structure z all t v o q inner is iv io rows.spelled iq; low = omega (arith, rows.low) }

abbrev pub AliasBy : ℕ → Place → Shared → List Token → Type 0
AliasBy n p = Seq SpellsWord (λ z. Seq (Led s.Assign (Within type_height n SpellsType)) (λ ty. Semi (shared.Using p z ty)))

type_before_semi : (ty : TypeExpr) (t : Token) (ts : List Token) → IsSign s.Semicolon t → TypeEnds ty (t ∷ ts)
unfolding same_sign
type_before_semi ty t ts is = record { no_size = seen _ t ts _ is.kind false refl; no_name = seen _ t ts _ is.kind false refl }

pub meets_alias : (n : ℕ) (p : Place) → Meets (alias n p) (AliasBy n p) Any Any
unfolding alias
meets_alias n p = meets_same (λ ts. refl) (meets_seq meets_word (λ z. meets_seq (meets_led s.Assign (meets_type n)) (λ ty. meets_semicolon (shared.Using p z ty)) (λ ty b v r h m. starts_semi (TypeEnds ty) (shared.Using p z ty) b (type_before_semi ty) v r h)) (λ z b v r h m. tt))

pub alias_as : (n : ℕ) (t : Token) → IsReserved w.Using t → (a : Shared) (u : List Token) → AliasBy n t.place a u → Within shared_height (suc n) SpellsShared a (t ∷ u)
alias_as n t is _ _ (seq _ _ _ _ (g.word z v iv) (seq _ _ _ _ (led ty equals inner ie st) (semi q iq))) =
    record { spelled = d.alias z ty t v equals q inner is iv ie st.spelled iq; low = omega (arith, st.low) }

abbrev pub LetBy : ℕ → Place → Shared → List Token → Type 0
LetBy n p = Seq (Listed (Within init_height n SpellsInit)) (λ all. Semi (shared.Let p all))

pub inits_end : (all : List Init) (t : Token) (r : List Token) → IsSign s.Semicolon t → Ended (is_sign s.Comma) InitEnds all (t ∷ r)
inits_end all t r is = let stops = stops_semicolon t r is in record { ended = stops.no_comma; needs = λ x. stops.closed x.value }

pub meets_constants : (n : ℕ) (p : Place) → Meets (constants n p) (LetBy n p) Any Any
unfolding constants
meets_constants n p = meets_seq (meets_inits n) (λ all. meets_semicolon (shared.Let p all)) (λ all b v r h m. starts_semi (Ended (is_sign s.Comma) InitEnds all) (shared.Let p all) b (inits_end all) v r h)

pub let_as : (n : ℕ) (t : Token) → IsReserved w.Let t → (a : Shared) (u : List Token) → LetBy n t.place a u → Within shared_height (suc n) SpellsShared a (t ∷ u)
let_as n t is _ _ (seq all _ inner _ h (semi q iq)) = let low = listed_of init_height n SpellsInit h in record { spelled = d.constants all t q inner is low.spelled iq; low = omega (arith, low.low) }

pub meets_asserted : (n : ℕ) (p : Place) → Meets (asserted n p) (Of (λ z. shared.Assert z) (Asserting n p)) Any Any
unfolding asserted
meets_asserted n p = meets_of {G = Any} {M = Any} (λ z. shared.Assert z) (meets_assertion n p) (λ a r f. tt) (λ a r f. tt)

pub asserted_as : (n : ℕ) (t : Token) → IsReserved w.StaticAssert t → (a : Shared) (u : List Token) → Of (λ z. shared.Assert z) (Asserting n t.place) a u → Within shared_height (suc n) SpellsShared a (t ∷ u)
asserted_as n t is _ _ (of z u h) = let one = assert_as n t is z u h in record { spelled = d.asserted z (t ∷ u) one.spelled; low = omega (arith, one.low) }

-- ---- functions

abbrev pub made_function : Place → Option TypeExpr → Word → List Typed → Block → Function
made_function p ty z params b = record { place = p; result = ty; name = z; params = params; body = b }

abbrev pub FunctionBy : ℕ → Place → Option TypeExpr → Word → Function → List Token → Type 0
FunctionBy n p ty z = Seq (Parens (Within typed_height n SpellsTyped)) (λ params. Of (λ b. made_function p ty z params b) (Within block_height n SpellsBlock))

typed_first : {a : Typed} {u : List Token} → SpellsTyped a u → First begins_expr u
typed_first (g.typed ty z t front st is) = first_append (type_first st) (t ∷ [])

pub meets_function_of : (n : ℕ) (p : Place) (ty : Option TypeExpr) (z : Word) → Meets (function_of n p ty z) (FunctionBy n p ty z) Any Any
unfolding function_of
meets_function_of n p ty z = meets_seq (meets_in_parentheses (typed n) (local_typed n) (meets_typed n) (λ x v r h. no_sign_first s.RightParenthesis refl (typed_first h.spelled) r))
    (λ params. meets_of {G = Any} {M = Any} (λ b. made_function p ty z params b) (meets_body n) (λ a r f. tt) (λ a r f. tt)) (λ params b v r h m. tt)

pub meets_void : (n : ℕ) (p : Place) → Meets (void_function n p) (Seq SpellsWord (FunctionBy n p None)) Any Any
unfolding void_function
meets_void n p = meets_seq meets_word (λ z. meets_function_of n p None z) (λ z b v r h m. tt)

pub void_as : (n : ℕ) (t : Token) → IsReserved w.Void t → (a : Function) (u : List Token) → Seq SpellsWord (FunctionBy n t.place None) a u → Within function_height (suc n) SpellsFunction a (t ∷ u)
void_as n t is _ _ (seq _ _ _ _ (g.word z v iv) (seq _ _ _ _ (parens params o q inner io hp iq) (of b back hb))) =
    let low = maybe_of typed_height n SpellsTyped hp in
    subst (λ (l : List Token). Within function_height (suc n) SpellsFunction (made_function t.place None z params b) (t ∷ v ∷ o ∷ l)) (sym (append_assoc inner (q ∷ []) back))
    (record { spelled = d.plain z params b t v o q inner back is iv io low.spelled iq hb.spelled; low = omega (arith, low.low, hb.low) })

pub as_void : (n : ℕ) (t : Token) (z : Word) (params : List Typed) (b : Block) (v o q : Token) (inner back : List Token) → IsWord z v → IsSign s.LeftParenthesis o → MaybeListed SpellsTyped params inner → IsSign s.RightParenthesis q → SpellsBlock b back
    → function_height (made_function t.place None z params b) ≤ suc n → Seq SpellsWord (FunctionBy n t.place None) (made_function t.place None z params b) (v ∷ o ∷ (inner ++ q ∷ back))
as_void n t z params b v o q inner back iv io hp iq hb low =
    let f : Function = made_function t.place None z params b in
    let rest : FunctionBy n t.place None z f ((o ∷ (inner ++ q ∷ [])) ++ back) =
    seq params f (o ∷ (inner ++ q ∷ [])) back (parens params o q inner io (of_maybe typed_height n SpellsTyped hp (omega arith)) iq) (of b back (record { spelled = hb; low = omega arith })) in
    seq z f (v ∷ []) (o ∷ (inner ++ q ∷ back)) (g.word z v iv) (subst (λ (l : List Token). FunctionBy n t.place None z f (o ∷ l)) (append_assoc inner (q ∷ []) back) rest)
