-- What the parsers of processors and graphs meet.
use Rattle.std.proofs.Common.{◌≡◌, ℕ, zero, suc, ◌-◌, ◌≤◌, Bool, true, false, cond, List, [], ◌∷◌, ◌++◌, refl, ap, sym, subst, ◌∙◌, append_assoc, inl, inr, arith}
use Rattle.cm_base.specs.declared.place.Place.{Place}
use Rattle.cm_tree.specs.declared.token.Token.{Token}
use Rattle.cm_tree.specs.declared.token.TokenKind.{TokenKind}
use Rattle.cm_tree.specs.declared.token.TokenKind.TheVariants as k
use Rattle.cm_tree.specs.declared.sign.Sign.TheVariants as s
use Rattle.cm_tree.specs.declared.reserved.Reserved.{Reserved}
use Rattle.cm_tree.specs.declared.reserved.Reserved.TheVariants as w
use Rattle.cm_tree.specs.declared.path.Word.{Word}
use Rattle.cm_tree.specs.declared.type_expr.Typed.{Typed}
use Rattle.cm_tree.specs.declared.member.Key.{Key}
use Rattle.cm_tree.specs.declared.member.Member.{Member}
use Rattle.cm_tree.specs.declared.decl.Param.{Param}
use Rattle.cm_tree.specs.declared.decl.Param.TheVariants as param
use Rattle.cm_tree.specs.declared.decl.UnitDecl.{UnitDecl}
use Rattle.cm_tree.specs.StmtHeights.{param_height, unit_height, typed_height, key_height, member_height}
use Rattle.cm_tree.specs.Lists.{highest, highest-nil, Listed}
use Rattle.cm_tree.specs.Spelling.{IsSign, IsReserved}
use Rattle.cm_tree.specs.StmtSpelling.{SpellsWord, SpellsTyped, SpellsInit, SpellsVar, SpellsAssert, SpellsBlock}
use Rattle.cm_tree.specs.StmtSpelling as g
use Rattle.cm_tree.specs.DeclSpelling.{IsText, SpellsKey, SpellsKeys, IsFlow, IsKind, SpellsEndName, SpellsEnd, SpellsEnds, SpellsFields, SpellsShared, SpellsFunction, SpellsNodeArgs, SpellsBracketed, SpellsFactor, SpellsNode, SpellsDotted, SpellsPoint, SpellsDelay, SpellsLink, SpellsLinks, SpellsItem, SpellsProcessorItem, SpellsGraphItem, SpellsParam, SpellsParams, SpellsUnit, SpellsDecl, SpellsDecls, SpellsFile}
use Rattle.cm_tree.specs.DeclSpelling as d
use Rattle.token_reader.specs.Parsers.{Parser, ◌>>=◌, ◌>>◌, pure, look, see, sees, skip, expect, is_sign, is_reserved, is_other, first, same_sign, same_reserved}
use Rattle.token_reader.specs.Lists.{separated, text}
use Rattle.token_reader.specs.Local.{Local, Takes}
use Rattle.token_reader.proofs.Inverses.{answer, if_ok, seen}
use Rattle.cm_parse_expr.proofs.Next.{sign_seen}
use Rattle.file_grammar.specs.Words.{within, here, word, typed}
use Rattle.file_grammar.specs.Members.{processor_member, graph_member}
use Rattle.file_grammar.proofs.Meets.{Found, Meets, Any, Is, Ended, meets_pure, meets_separated}
use Rattle.file_grammar.proofs.Spelled.{Within, meets_word}
use Rattle.file_grammar.proofs.Targets.{here_is}
use Rattle.file_grammar.proofs.Shapes.{Signed, signed, Seq, seq, Of, of, Led, led, Choice, one_way, other_way, meets_seq, meets_of, meets_iff, meets_weaker, meets_led, meets_choice, meets_up_to, meets_within, skip_same_then, skip_of_found, skip_of_read, stay_found, nothing_there}
use Rattle.file_grammar.proofs.Lows.{every_of, of_every, listed_of, of_listed}
use Rattle.file_grammar.proofs.FirstTokens.{First}
use Rattle.std.proofs.Math.Dec.{eqb-suc-zero}
use Rattle.token_reader.specs.Parsers.{refuse}
use Rattle.token_reader.proofs.Inverses.{reserved_is, reserved_same}
use Rattle.file_grammar.specs.Files.{param_if, one_param, params, below, unit_of, processor, graph}
use Rattle.file_grammar.proofs.FarDecls.{local_one_param, local_below, takes_below, local_processor_member, takes_processor_member, local_graph_member, takes_graph_member}
use Rattle.file_grammar.proofs.FirstTokens.{begins_type, type_begins}
use Rattle.file_grammar.proofs.MemberParts.{Braces, meets_typed, meets_in_braces, meets_keys}
use Rattle.file_grammar.proofs.MemberItems.{meets_processor_member, meets_graph_member, processor_other, graph_other, member_some}

-- ---- parameters

within_ok : {A : Type 0} (n : ℕ) (p : Parser A) (ts : List Token) (a : A) (r : List Token) → within n p ts ≡ answer a r → (1 ≤ n) × (p ts ≡ answer a r)
within_ok zero p ts a r h = absurd cc
within_ok (suc n) p ts a r h = (omega arith, ap (λ (b : Bool). cond b refuse p ts) (sym (eqb-suc-zero n)) ∙ h)

within_is : {A : Type 0} (n : ℕ) (p : Parser A) (ts : List Token) → 1 ≤ n → within n p ts ≡ p ts
within_is zero p ts some = absurd (omega arith)
within_is (suc n) p ts some = ap (λ (b : Bool). cond b refuse p ts) (eqb-suc-zero n)

abbrev type_param : ℕ → Place → Parser Param
type_param n p = within n (skip >> word >>= (λ z. pure (param.Type p z)))

abbrev value_param : ℕ → Parser Param
value_param n = typed n >>= (λ a. pure (param.Value a.ty a.name))

abbrev ParamIn : ℕ → Param → List Token → Type 0
ParamIn n = Within param_height n SpellsParam

abbrev of_typed : Typed → Param
of_typed a = param.Value a.ty a.name

spelled_by : (n : ℕ) {a : Typed} {u : List Token} → SpellsTyped a u → typed_height a ≤ n → ParamIn n (of_typed a) u
spelled_by n (g.typed ty z t front st is) low = record { spelled = d.value ty z t front st is; low = low }

value_as : (n : ℕ) (a : Param) (u : List Token) → Of of_typed (Within typed_height n SpellsTyped) a u → ParamIn n a u
value_as n _ _ (of a u h) = spelled_by n h.spelled h.low

word_as : (n : ℕ) → 1 ≤ n → (t : Token) → IsReserved w.Using t → (z : Word) (u : List Token) → SpellsWord z u → ParamIn n (param.Type t.place z) (t ∷ u)
word_as n some t is _ _ (g.word z v iv) = record { spelled = d.type z t v is iv; low = some }

param_found_at : (n : ℕ) (t : Token) (ts : List Token) (a : Param) (r : List Token) → (see (is_reserved w.Using) >>= param_if n t.place) (t ∷ ts) ≡ answer a r → Found (ParamIn n) Any (t ∷ ts) a r
unfolding see sees
param_found_at n t ts a r h =
    elim (if_ok (is_reserved w.Using t.kind) _ _ (t ∷ ts) _ h) [
      | inl q ↦
          let i = within_ok n (skip >> word >>= (λ z. pure (param.Type t.place z))) (t ∷ ts) a r q.1 in
          skip_of_found (λ z. param.Type t.place z) meets_word t ts a r i.1 (λ z u v. word_as n i.0 t (record { kind = reserved_is w.Using t.kind q.0 }) z u v)
      | inr q ↦ stay_found (meets_of {G = Any} {M = Any} of_typed (meets_typed n) (λ a r f. tt) (λ a r f. tt)) (t ∷ ts) a r q.1 (value_as n)
    ]

param_found : (n : ℕ) (ts : List Token) (a : Param) (r : List Token) → one_param n ts ≡ answer a r → Found (ParamIn n) Any ts a r
unfolding one_param here look
param_found n [] a r h = absurd cc
param_found n (t ∷ ts) a r h = param_found_at n t ts a r h

param_at : (n : ℕ) (t : Token) (ts : List Token) → one_param n (t ∷ ts) ≡ (see (is_reserved w.Using) >>= param_if n t.place) (t ∷ ts)
unfolding one_param
param_at n t ts = rw (here_is t ts) refl

param_if_type : (n : ℕ) (p : Place) (ts : List Token) → sees (is_reserved w.Using) ts ≡ true → (see (is_reserved w.Using) >>= param_if n p) ts ≡ type_param n p ts
unfolding see
param_if_type n p ts is = rw is refl

param_if_value : (n : ℕ) (p : Place) (ts : List Token) → sees (is_reserved w.Using) ts ≡ false → (see (is_reserved w.Using) >>= param_if n p) ts ≡ value_param n ts
unfolding see
param_if_value n p ts is = rw is refl

no_using : (z : TokenKind) → begins_type z ≡ true → is_reserved w.Using z ≡ false
unfolding same_reserved
no_using (k.Word text) is = refl
no_using (k.Reserved w.Bool) is = refl
no_using (k.Reserved w.Int) is = refl
no_using (k.Reserved w.Int32) is = refl
no_using (k.Reserved w.Int64) is = refl
no_using (k.Reserved w.Wrap) is = refl
no_using (k.Reserved w.Clamp) is = refl
no_using _ is = absurd cc

param_read : (n : ℕ) {a : Param} {u : List Token} → SpellsParam a u → param_height a ≤ n → (r : List Token) → one_param n (u ++ r) ≡ answer a r
unfolding sees
param_read n (d.type z t v is iv) low r =
    param_at n t (v ∷ r) ∙ param_if_type n t.place (t ∷ v ∷ r) (seen (is_reserved w.Using) t (v ∷ r) _ is.kind true (reserved_same w.Using))
    ∙ within_is n (skip >> word >>= (λ x. pure (param.Type t.place x))) (t ∷ v ∷ r) low
    ∙ skip_of_read (λ x. param.Type t.place x) meets_word t z (v ∷ []) r (g.word z v iv) tt
param_read n (d.value ty z v front st iv) low r =
    let f = type_begins st in
    let whole : (front ++ v ∷ []) ++ r ≡ f.token ∷ ((f.tokens ++ v ∷ []) ++ r) = ap (λ (l : List Token). (l ++ v ∷ []) ++ r) f.parts in
    let ts : List Token = f.token ∷ ((f.tokens ++ v ∷ []) ++ r) in
    ap (one_param n) whole ∙ param_at n f.token ((f.tokens ++ v ∷ []) ++ r) ∙ param_if_value n f.token.place ts (no_using f.token.kind f.begins) ∙ ap (value_param n) (sym whole)
    ∙ (meets_of {G = Any} {M = Any} of_typed (meets_typed n) (λ a r f. tt) (λ a r f. tt)).complete (param.Value ty z) (front ++ v ∷ []) r
    (of (record { ty = ty; name = z }) (front ++ v ∷ []) (record { spelled = g.typed ty z v front st iv; low = low })) tt

meets_param : (n : ℕ) → Meets (one_param n) (ParamIn n) Any Any
meets_param n = record { sound = param_found n; complete = λ a u r h any. param_read n h.spelled h.low r }

params_end : (all : List Param) (t : Token) (r : List Token) → IsSign s.RightParenthesis t → Ended (is_sign s.Comma) Any all (t ∷ r)
unfolding same_sign
params_end all t r is = record { ended = seen (is_sign s.Comma) t r _ is.kind false refl; needs = λ x. tt }

abbrev no_param : List Param
no_param = []

abbrev NoCall : {A : Type 0} → A → List Token → Type 0
NoCall a r = sees (is_sign s.LeftParenthesis) r ≡ false

no_params : Meets (pure no_param) (Is []) Any NoCall
no_params = meets_weaker (meets_pure no_param) (λ a r f. tt) (λ a r m. tt)

abbrev ParamsBy : ℕ → List Param → List Token → Type 0
ParamsBy n = Seq (Led s.LeftParenthesis (Listed (ParamIn n))) (λ all. Of (λ (y : Unit {0}). all) (Signed s.RightParenthesis))

params_opens : (n : ℕ) (a : List Param) (u r : List Token) → ParamsBy n a u → sees (is_sign s.LeftParenthesis) (u ++ r) ≡ true
params_opens n _ _ r (seq _ _ _ _ (led _ o _ io h) more) = sign_seen s.LeftParenthesis o _ io

abbrev ParamsIn : ℕ → List Param → List Token → Type 0
ParamsIn n = Within (highest param_height) n SpellsParams

params_as : (n : ℕ) (a : List Param) (u : List Token) → Choice (ParamsBy n) (Is []) a u → ParamsIn n a u
params_as n _ _ (one_way _ _ (seq all _ _ _ (led _ o inner io h) (of _ _ (signed _ v iv)))) = let low = listed_of param_height n SpellsParam h in record { spelled = d.some all o v inner io low.spelled iv; low = low.low }
params_as n a u (other_way _ _ h) = subst (λ (l : List Token). ParamsIn n a l) (sym h.none) (subst (λ (x : List Param). ParamsIn n x []) (sym h.same) (record { spelled = d.none; low = omega (arith, highest-nil param_height) }))

as_params : (n : ℕ) {a : List Param} {u : List Token} → SpellsParams a u → highest param_height a ≤ n → Choice (ParamsBy n) (Is []) a u
as_params n d.none low = other_way [] [] (record { same = refl; none = refl })
as_params n (d.some all o v inner io h iv) low = one_way all (o ∷ (inner ++ v ∷ [])) (seq all all (o ∷ inner) (v ∷ []) (led all o inner io (of_listed param_height n SpellsParam h low)) (of tt (v ∷ []) (signed tt v iv)))

meets_params : (n : ℕ) → Meets (params n) (ParamsIn n) Any NoCall
unfolding params
meets_params n = meets_iff
    (meets_choice (is_sign s.LeftParenthesis) (λ ts is. skip_same_then (is_sign s.LeftParenthesis) (separated (is_sign s.Comma) (one_param n)) (λ all. expect (is_sign s.RightParenthesis) >> pure all) ts is)
    (meets_up_to (meets_led s.LeftParenthesis (meets_separated (one_param n) (local_one_param n) (meets_param n) (λ x t r is. tt))) params_end)
    no_params (λ a u r h z. params_opens n a u r h) (λ a u r h z. nothing_there s.LeftParenthesis a [] u r h z) (λ a r z. tt) (λ a r z. z))
    (params_as n) (λ a u h. as_params n h.spelled h.low)

-- ---- processors and graphs

abbrev made_unit : Place → Word → List Param → List Key → List Member → UnitDecl
made_unit p z all marks members = record { place = p; name = z; params = all; keys = marks; members = members }

abbrev KeysIn : ℕ → List Key → List Token → Type 0
KeysIn n = Within (highest key_height) n SpellsKeys

abbrev MembersBy : (Member → List Token → Type 0) → Place → Word → List Param → List Key → UnitDecl → List Token → Type 0
MembersBy R p z all marks = Of (λ members. made_unit p z all marks members) (Led s.LeftBrace (Braces R))

abbrev KeysRest : ℕ → (Member → List Token → Type 0) → Place → Word → List Param → UnitDecl → List Token → Type 0
KeysRest n R p z all = Seq (KeysIn n) (λ marks. MembersBy R p z all marks)

abbrev pub UnitBy : ℕ → (Member → List Token → Type 0) → Place → UnitDecl → List Token → Type 0
UnitBy n R p = Seq SpellsWord (λ z. Seq (ParamsIn n) (λ all. KeysRest n R p z all))

members_open : {R : Member → List Token → Type 0} {p : Place} {z : Word} {all : List Param} {marks : List Key} (b : UnitDecl) (v : List Token) → MembersBy R p z all marks b v → (test : TokenKind → Bool) → test (k.Sign s.LeftBrace) ≡ false → (r : List Token) → sees test (v ++ r) ≡ false
members_open _ _ (of _ _ (led _ o u io h)) test fails r = seen test o (u ++ r) _ io.kind false fails

keys_apart : {a : List Key} {u : List Token} → SpellsKeys a u → (test : TokenKind → Bool) → test (k.Sign s.LeftBracket) ≡ false → (r : List Token) → sees test r ≡ false → sees test (u ++ r) ≡ false
keys_apart d.none test fails r none = none
keys_apart (d.some all o v p q inner io iv h ip iq) test fails r none = seen test o _ _ io.kind false fails

keys_open : {n : ℕ} {R : Member → List Token → Type 0} {p : Place} {z : Word} {all : List Param} (b : UnitDecl) (v : List Token) → KeysRest n R p z all b v → (test : TokenKind → Bool) → test (k.Sign s.LeftBracket) ≡ false → test (k.Sign s.LeftBrace) ≡ false → (r : List Token) → sees test (v ++ r) ≡ false
keys_open _ _ (seq marks b u v h more) test fails fails2 r = ap (sees test) (append_assoc u v r) ∙ keys_apart h.spelled test fails (v ++ r) (members_open b v more test fails2 r)

module _ (n : ℕ) (item : Parser Member) (local : Local item) (takes : Takes item) {R : Member → List Token → Type 0} (m : Meets item R Any Any) (others : (x : Member) (v : List Token) → R x v → First (is_other s.RightBrace) v) where
  meets_unit : (p : Place) → Meets (unit_of n item p) (UnitBy n R p) Any Any
  unfolding unit_of same_sign
  meets_unit p = meets_seq meets_word
      (λ z. meets_seq (meets_params n)
      (λ all. meets_seq (meets_keys n)
      (λ marks. meets_of {G = Any} {M = Any} (λ members. made_unit p z all marks members) (meets_led s.LeftBrace (meets_in_braces item local takes m others)) (λ a r f. tt) (λ a r f. tt))
      (λ marks b v r h i. members_open b v h (is_sign s.LeftBracket) refl r))
      (λ all b v r h i. keys_open b v h (is_sign s.LeftParenthesis) refl refl r))
      (λ z b v r h i. tt)

abbrev pub UnitIn : ℕ → Reserved → (Member → List Token → Type 0) → UnitDecl → List Token → Type 0
UnitIn n first P = Within unit_height (suc n) (SpellsUnit first P)

pub unit_as : (n : ℕ) (first : Reserved) (P : Member → List Token → Type 0) (t : Token) → IsReserved first t → (a : UnitDecl) (u : List Token) → UnitBy n (Within member_height n P) t.place a u → UnitIn n first P a (t ∷ u)
unit_as n first P t is _ _ (seq _ _ _ _ (g.word z v iv) (seq all _ front _ ha (seq marks _ middle _ hk (of _ _ (led members o _ io (seq _ _ inner _ h (of _ _ (signed _ q iq)))))))) =
    let rows = every_of member_height n P h in
    record { spelled = d.«unit» z all marks members t v o q front middle inner is iv ha.spelled hk.spelled io rows.spelled iq; low = omega (arith, ha.low, hk.low, rows.low) }

pub record UnitHead (n : ℕ) (first : Reserved) (P : Member → List Token → Type 0) (a : UnitDecl) (u : List Token) : Type 0 where
  pub token : Token
  pub tokens : List Token
  pub parts : u ≡ token ∷ tokens
  pub is : IsReserved first token
  pub spelled : UnitBy n (Within member_height n P) token.place a tokens

pub unit_head : (n : ℕ) (first : Reserved) (P : Member → List Token → Type 0) {a : UnitDecl} {u : List Token} → SpellsUnit first P a u → unit_height a ≤ suc n → UnitHead n first P a u
unit_head n first P (d.«unit» z all marks members t v o q front middle inner is iv ha hk io h iq) low =
    let b : UnitDecl = made_unit t.place z all marks members in
    record {
      token = t;
      tokens = v ∷ (front ++ (middle ++ o ∷ (inner ++ q ∷ [])));
      parts = refl;
      is = is;
      spelled = seq z b (v ∷ []) (front ++ (middle ++ o ∷ (inner ++ q ∷ []))) (g.word z v iv)
          (seq all b front (middle ++ o ∷ (inner ++ q ∷ [])) (record { spelled = ha; low = omega arith })
          (seq marks b middle (o ∷ (inner ++ q ∷ [])) (record { spelled = hk; low = omega arith })
          (of members (o ∷ (inner ++ q ∷ [])) (led members o (inner ++ q ∷ []) io
          (seq members members inner (q ∷ []) (of_every member_height n P h (omega arith)) (of tt (q ∷ []) (signed tt q iq)))))));
    }

-- a member of a height of at most n
meets_below : (n : ℕ) {P : Member → List Token → Type 0} (item : ℕ → Parser Member) → ((i : ℕ) → Meets (item i) (Within member_height (suc i) P) Any Any) → Meets (below n (item (n - 1))) (Within member_height n P) Any Any
unfolding below
meets_below n item m = meets_within n
    (λ some. meets_iff (m (n - 1)) (λ a u h. record { spelled = h.spelled; low = omega (arith, h.low) }) (λ a u h. record { spelled = h.spelled; low = omega (arith, h.low) }))
    (λ a u h. omega (arith, member_some a, h.low))

pub meets_processor : (n : ℕ) (p : Place) → Meets (processor n p) (UnitBy n (Within member_height n SpellsProcessorItem) p) Any Any
unfolding processor
meets_processor n p = meets_unit n (below n (processor_member (n - 1))) (local_below n (local_processor_member (n - 1))) (takes_below n (takes_processor_member (n - 1))) (meets_below n processor_member meets_processor_member) (λ x v h. processor_other h.spelled) p

pub meets_graph : (n : ℕ) (p : Place) → Meets (graph n p) (UnitBy n (Within member_height n SpellsGraphItem) p) Any Any
unfolding graph
meets_graph n p = meets_unit n (below n (graph_member (n - 1))) (local_below n (local_graph_member (n - 1))) (takes_below n (takes_graph_member (n - 1))) (meets_below n graph_member meets_graph_member) (λ x v h. graph_other h.spelled) p
