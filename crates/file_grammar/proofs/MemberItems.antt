-- What the parsers of the members of processors and graphs meet.
use Rattle.std.proofs.Common.{◌≡◌, ℕ, suc, ◌≤◌, Bool, true, false, codes, List, [], ◌∷◌, ◌++◌, Some, None, refl, ap, sym, subst, ◌∙◌, append_assoc, inl, inr, arith}
use Rattle.cm_base.specs.declared.place.Place.{Place}
use Rattle.cm_base.specs.declared.host.Flow.TheVariants as flow
use Rattle.cm_tree.specs.declared.token.Token.{Token}
use Rattle.cm_tree.specs.declared.token.TokenKind.{TokenKind}
use Rattle.cm_tree.specs.declared.token.TokenKind.TheVariants as k
use Rattle.cm_tree.specs.declared.sign.Sign.TheVariants as s
use Rattle.cm_tree.specs.declared.reserved.Reserved.{Reserved}
use Rattle.cm_tree.specs.declared.reserved.Reserved.TheVariants as w
use Rattle.cm_tree.specs.declared.path.Word.{Word}
use Rattle.cm_tree.specs.declared.type_expr.TypeExpr.{TypeExpr}
use Rattle.cm_tree.specs.declared.type_expr.Typed.{Typed}
use Rattle.cm_tree.specs.declared.simple.Var.{Var}
use Rattle.cm_tree.specs.declared.stmt.Assert.{Assert}
use Rattle.cm_tree.specs.declared.stmt.Block.{Block}
use Rattle.cm_tree.specs.declared.shared.Shared.{Shared}
use Rattle.cm_tree.specs.declared.shared.Shared.TheVariants as shared
use Rattle.cm_tree.specs.declared.shared.Function.{Function}
use Rattle.cm_tree.specs.declared.member.Member.{Member}
use Rattle.cm_tree.specs.declared.member.Member.TheVariants as member
use Rattle.cm_tree.specs.Heights.{height}
use Rattle.cm_tree.specs.StmtHeights.{type_height, typed_height, init_height, var_height, block_height, fields_height, shared_height, function_height, member_height}
use Rattle.cm_tree.specs.Lists.{Listed, MaybeListed}
use Rattle.cm_tree.specs.Spelling.{IsSign, IsReserved, IsWord, SpellsExpr, SpellsType}
use Rattle.cm_tree.specs.StmtSpelling.{SpellsWord, SpellsTyped, SpellsInit, SpellsVar, SpellsAssert, SpellsBlock}
use Rattle.cm_tree.specs.StmtSpelling as g
use Rattle.cm_tree.specs.DeclSpelling.{IsText, SpellsKey, SpellsKeys, IsFlow, IsKind, SpellsEndName, SpellsEnd, SpellsEnds, SpellsFields, SpellsShared, SpellsFunction, SpellsNodeArgs, SpellsBracketed, SpellsFactor, SpellsNode, SpellsDotted, SpellsPoint, SpellsDelay, SpellsLink, SpellsLinks, SpellsItem, SpellsProcessorItem, SpellsGraphItem}
use Rattle.cm_tree.specs.DeclSpelling as d
use Rattle.token_reader.specs.Parsers.{Parser, ◌>>=◌, ◌>>◌, pure, look, see, sees, skip, is_sign, is_other, same_sign}
use Rattle.token_reader.specs.Lists.{text}
use Rattle.token_reader.proofs.Inverses.{answer, bind_ok, if_ok, seen}
use Rattle.cm_parse_expr.proofs.Next.{Closed, closes, sign_seen}
use Rattle.file_grammar.specs.Words.{word}
use Rattle.file_grammar.specs.Simples.{value, vars}
use Rattle.file_grammar.specs.Stmts.{semicolon}
use Rattle.file_grammar.specs.Members.{is_shared, shared_by, function_of, handler, variables, latency, typed_member_if, typed_member, processor_member_by, processor_member, graph_member_by, graph_member}
use Rattle.file_grammar.proofs.Meets.{Found, Meets, Any, Ended}
use Rattle.file_grammar.proofs.Spelled.{Within, TypeEnds, VarEnds, InitEnds, meets_expr, meets_type, meets_word, meets_inits, meets_vars}
use Rattle.file_grammar.proofs.Targets.{head_same}
use Rattle.file_grammar.proofs.Shapes.{signed, Texted, texted, Seq, seq, Of, of, Led, led, Semi, semi, meets_text_word, meets_seq, meets_of, meets_led, meets_semicolon, starts_semi, type_before_word, skip_found, skip_read, skip_of_found, skip_of_read, found_as}
use Rattle.file_grammar.proofs.Lows.{of_every, listed_of, of_listed, maybe_of, of_maybe}
use Rattle.file_grammar.proofs.FirstTokens.{First, first_is, first_append, type_other}
use Rattle.file_grammar.proofs.Changes.{stops_semicolon}
use Rattle.file_grammar.proofs.StmtParts.{as_assert}
use Rattle.file_grammar.proofs.Statements.{meets_body}
use Rattle.file_grammar.proofs.FirstTokens.{begins_type, type_begins, begins_at}
use Rattle.file_grammar.proofs.ForHeads.{vars_from, vars_by, vars_after}
use Rattle.file_grammar.proofs.MemberParts.{parens, meets_typed}
use Rattle.file_grammar.proofs.MemberEnds.{FunctionBy, made_function, meets_ends, ends_as, as_ends, meets_structure, struct_as, meets_alias, alias_as, meets_constants, let_as, inits_end, meets_asserted, asserted_as, meets_function_of, meets_void, void_as, as_void}
use Rattle.file_grammar.proofs.MemberNodes.{meets_nodes, nodes_as, as_nodes}
use Rattle.file_grammar.proofs.MemberLinks.{meets_connection, connection_as, as_connection}

-- ---- handlers, variables, latency

abbrev HandlerBy : ℕ → Place → Member → List Token → Type 0
HandlerBy n p = Seq SpellsWord (λ z. Seq (Led s.LeftParenthesis (Within typed_height n SpellsTyped)) (λ a. Of (λ b. member.Handler p z a b) (Led s.RightParenthesis (Within block_height n SpellsBlock))))

meets_handler : (n : ℕ) (p : Place) → Meets (handler n p) (HandlerBy n p) Any Any
unfolding handler
meets_handler n p = meets_seq meets_word
    (λ z. meets_seq (meets_led s.LeftParenthesis (meets_typed n)) (λ a. meets_of {G = Any} {M = Any} (λ b. member.Handler p z a b) (meets_led s.RightParenthesis (meets_body n)) (λ a r f. tt) (λ a r f. tt)) (λ a b v r h m. tt))
    (λ z b v r h m. tt)

handler_as : (n : ℕ) (t : Token) → IsReserved w.Event t → (a : Member) (u : List Token) → HandlerBy n t.place a u → Within member_height (suc n) SpellsProcessorItem a (t ∷ u)
handler_as n t is _ _ (seq _ _ _ _ (g.word z v iv) (seq _ _ _ _ (led a o inner io ha) (of _ _ (led b q back iq hb)))) =
    record { spelled = d.handler z a b t v o q inner back is iv io ha.spelled iq hb.spelled; low = omega (arith, ha.low, hb.low) }

abbrev VariablesBy : ℕ → Place → Member → List Token → Type 0
VariablesBy n p = Seq (Listed (Within init_height n SpellsInit)) (λ all. Semi (member.Var p all))

meets_variables : (n : ℕ) (p : Place) → Meets (variables n p) (VariablesBy n p) Any Any
unfolding variables
meets_variables n p = meets_seq (meets_inits n) (λ all. meets_semicolon (member.Var p all)) (λ all b v r h m. starts_semi (Ended (is_sign s.Comma) InitEnds all) (member.Var p all) b (inits_end all) v r h)

variables_as : (n : ℕ) (t : Token) → IsReserved w.Var t → (a : Member) (u : List Token) → VariablesBy n t.place a u → Within member_height (suc n) SpellsProcessorItem a (t ∷ u)
variables_as n t is _ _ (seq all _ inner _ h (semi q iq)) = let low = listed_of init_height n SpellsInit h in record { spelled = d.variables all t q inner is low.spelled iq; low = omega (arith, low.low) }

meets_value_led : (n : ℕ) → Meets (value n) (Led s.Assign (Within height n SpellsExpr)) Closed Closed
unfolding value
meets_value_led n = meets_led s.Assign (meets_expr n)

abbrev LatencyBy : ℕ → Place → Member → List Token → Type 0
LatencyBy n p = Seq (Seq (Led s.Dot (Texted (codes "latency"))) (λ (y : Unit {0}). Led s.Assign (Within height n SpellsExpr))) (λ x. Semi (member.Latency p x))

meets_latency : (n : ℕ) (p : Place) → Meets (latency n p) (LatencyBy n p) Any Any
unfolding latency
meets_latency n p = meets_seq (meets_seq (meets_led s.Dot (meets_text_word (codes "latency"))) (λ y. meets_value_led n) (λ y b v r h m. tt)) (λ x. meets_semicolon (member.Latency p x))
    (λ x b v r h m. starts_semi (Closed x) (member.Latency p x) b (λ t ts is. closes s.Semicolon refl t ts x is) v r h)

latency_as : (n : ℕ) (t : Token) → IsReserved w.Processor t → (a : Member) (u : List Token) → LatencyBy n t.place a u → Within member_height (suc n) SpellsProcessorItem a (t ∷ u)
latency_as n t is _ _ (seq _ _ _ _ (seq _ _ _ _ (led _ dot _ id (texted _ v iv)) (led x equals inner ie hx)) (semi q iq)) =
    record { spelled = d.latency x t dot v equals q inner is id iv ie hx.spelled iq; low = omega (arith, hx.low) }

-- ---- functions with a result, and state

pub data Typing (n : ℕ) (p : Place) (ty : TypeExpr) : Member → List Token → Type 0 where
  calling : (z : Word) (f : Function) (t : Token) (u : List Token) → IsWord z t → FunctionBy n p (Some ty) z f u → Typing n p ty (member.Function f) (t ∷ u)
  holding : (vs : List Var) (v : Token) (front : List Token) → Listed (Within var_height n SpellsVar) vs front → IsSign s.Semicolon v → Typing n p ty (member.State ty vs) (front ++ v ∷ [])

vars_end : (all : List Var) (t : Token) (r : List Token) → IsSign s.Semicolon t → Ended (is_sign s.Comma) VarEnds all (t ∷ r)
vars_end all t r is = let stops = stops_semicolon t r is in record { ended = stops.no_comma; needs = λ x. record { no_value = stops.no_value; closed = stops.closed } }

module _ (n : ℕ) (p : Place) (ty : TypeExpr) where
  meets_state : Meets (vars n >>= (λ all. semicolon (member.State ty all))) (Seq (Listed (Within var_height n SpellsVar)) (λ all. Semi (member.State ty all))) Any Any
  meets_state = meets_seq (meets_vars n) (λ all. meets_semicolon (member.State ty all)) (λ all b v r h m. starts_semi (Ended (is_sign s.Comma) VarEnds all) (member.State ty all) b (vars_end all) v r h)

  meets_call : (z : Word) → Meets (function_of n p (Some ty) z >>= (λ f. pure (member.Function f))) (Of (λ f. member.Function f) (FunctionBy n p (Some ty) z)) Any Any
  meets_call z = meets_of {G = Any} {M = Any} (λ f. member.Function f) (meets_function_of n p (Some ty) z) (λ a r f. tt) (λ a r f. tt)

  calling_as : {z : Word} {front : List Token} → SpellsWord z front → (a : Member) (u : List Token) → Of (λ f. member.Function f) (FunctionBy n p (Some ty) z) a u → Typing n p ty a (front ++ u)
  calling_as (g.word z t is) _ _ (of f u h) = calling z f t u is h

  holding_as : (a : Member) (u : List Token) → Seq (Listed (Within var_height n SpellsVar)) (λ all. Semi (member.State ty all)) a u → Typing n p ty a u
  holding_as _ _ (seq vs _ front _ h (semi v iv)) = holding vs v front h iv

  typing_found : (ts : List Token) (a : Member) (r : List Token) → (word >>= (λ name. see (is_sign s.LeftParenthesis) >>= typed_member_if n p ty name)) ts ≡ answer a r → Found (Typing n p ty) Any ts a r
  unfolding see
  typing_found ts a r h =
      let c = bind_ok (word ts) (λ name. see (is_sign s.LeftParenthesis) >>= typed_member_if n p ty name) a r h in
      elim (if_ok (sees (is_sign s.LeftParenthesis) c.1) _ _ c.1 _ c.3) [
        | inl q ↦
            let name = meets_word.sound ts c.0 c.1 c.2 in
            let f = (meets_call c.0).sound c.1 a r q.1 in
            record { used = name.used ++ f.used; parts = name.parts ∙ ap (λ (l : List Token). name.used ++ l) f.parts ∙ sym (append_assoc name.used f.used r); spelled = calling_as name.spelled a f.used f.spelled; follows = tt }
        | inr q ↦ found_as (meets_state.sound ts a r (vars_after n (λ all. semicolon (member.State ty all)) ts c.0 c.1 c.2 ∙ q.1)) (λ u f. holding_as a u f)
      ]

  typing_by : (z : Word) (t : Token) (ts : List Token) (b : Bool) → IsWord z t → sees (is_sign s.LeftParenthesis) ts ≡ b → (word >>= (λ name. see (is_sign s.LeftParenthesis) >>= typed_member_if n p ty name)) (t ∷ ts) ≡ typed_member_if n p ty z b ts
  unfolding see
  typing_by z t ts b is there_is = let one = meets_word.complete z (t ∷ []) ts (g.word z t is) tt in rw (one, there_is) refl

  function_opens : (z : Word) (f : Function) (u r : List Token) → FunctionBy n p (Some ty) z f u → sees (is_sign s.LeftParenthesis) (u ++ r) ≡ true
  function_opens z _ _ r (seq _ _ _ _ (parens params o v inner io hp iv) more) = sign_seen s.LeftParenthesis o _ io

  typing_read : {a : Member} {u : List Token} → Typing n p ty a u → (r : List Token) → (word >>= (λ name. see (is_sign s.LeftParenthesis) >>= typed_member_if n p ty name)) (u ++ r) ≡ answer a r
  unfolding same_sign
  typing_read (calling z f t u is h) r = typing_by z t (u ++ r) true is (function_opens z f u r h) ∙ (meets_call z).complete (member.Function f) u r (of f u h) tt
  typing_read (holding vs v front h iv) r =
      let from = vars_from h in
      let go : List Var → Parser Member = λ all. semicolon (member.State ty all) in
      let whole : (front ++ v ∷ []) ++ r ≡ from.token ∷ (from.tokens ++ v ∷ r) = append_assoc front (v ∷ []) r ∙ ap (λ (l : List Token). l ++ v ∷ r) from.parts in
      let none = from.apart (is_sign s.LeftParenthesis) refl refl (v ∷ r) (seen (is_sign s.LeftParenthesis) v r _ iv.kind false refl) in
      ap (word >>= (λ name. see (is_sign s.LeftParenthesis) >>= typed_member_if n p ty name)) whole
      ∙ typing_by from.name from.token (from.tokens ++ v ∷ r) false from.is none ∙ sym (vars_by n go from.token (from.tokens ++ v ∷ r) from.name from.is) ∙ ap (vars n >>= go) (sym whole)
      ∙ meets_state.complete (member.State ty vs) (front ++ v ∷ []) r (seq vs (member.State ty vs) front (v ∷ []) h (semi v iv)) tt

  meets_typing : Meets (word >>= (λ name. see (is_sign s.LeftParenthesis) >>= typed_member_if n p ty name)) (Typing n p ty) Any Any
  meets_typing = record { sound = typing_found; complete = λ a u r h any. typing_read h r }

  typing_word : (a : Member) (u : List Token) → Typing n p ty a u → (P : List Token → Type 0) → ((t : Token) (ts : List Token) (text : List ℕ) → t.kind ≡ k.Word text → P (t ∷ ts)) → (r : List Token) → P (u ++ r)
  typing_word _ _ (calling z f t u is h) P i r = i t (u ++ r) z.text is.kind
  typing_word _ _ (holding vs v front h iv) P i r = let from = vars_from h in
      subst P (sym (append_assoc front (v ∷ []) r ∙ ap (λ (l : List Token). l ++ v ∷ r) from.parts)) (i from.token (from.tokens ++ v ∷ r) from.name.text from.is.kind)

abbrev TypedMember : ℕ → Place → Member → List Token → Type 0
TypedMember n p = Seq (Within type_height n SpellsType) (λ ty. Typing n p ty)

meets_typed_member : (n : ℕ) (p : Place) → Meets (typed_member n p) (TypedMember n p) Any Any
unfolding typed_member
meets_typed_member n p = meets_seq (meets_type n) (λ ty. meets_typing n p ty) (λ ty b v r h m. typing_word n p ty b v h (TypeEnds ty) (type_before_word ty) r)

-- a function with a result, where its place is that of the first token
pub giving : (n : ℕ) {ty : TypeExpr} {front : List Token} → SpellsType ty front → type_height ty ≤ n → (p : Place) (t : Token) (ts : List Token) → t.place ≡ p → (z : Word) (v : Token) → IsWord z v → (f : Function) (u r : List Token) → FunctionBy n p (Some ty) z f u
    → t ∷ ts ≡ (front ++ v ∷ u) ++ r → Within function_height (suc n) SpellsFunction f (front ++ v ∷ u)
giving n {ty} {front} st low p t ts place z v iv _ _ r (seq _ _ _ _ (parens params o q inner io hp iq) (of b back hb)) parts =
    let first = type_begins st in
    let low2 = maybe_of typed_height n SpellsTyped hp in
    let tail : List Token = v ∷ o ∷ (inner ++ q ∷ back) in
    let regroup : v ∷ o ∷ ((inner ++ q ∷ []) ++ back) ≡ tail = ap (λ (l : List Token). v ∷ o ∷ l) (append_assoc inner (q ∷ []) back) in
    let whole : front ++ v ∷ o ∷ ((inner ++ q ∷ []) ++ back) ≡ first.token ∷ (first.tokens ++ tail) = ap (λ (l : List Token). front ++ l) regroup ∙ ap (λ (l : List Token). l ++ tail) first.parts in
    let same : first.token.place ≡ p = ap (λ (x : Token). x.place) (sym (head_same t first.token ts ((first.tokens ++ tail) ++ r) (parts ∙ ap (λ (l : List Token). l ++ r) whole))) ∙ place in
    subst (λ (x : Place). Within function_height (suc n) SpellsFunction (made_function x (Some ty) z params b) (front ++ v ∷ o ∷ ((inner ++ q ∷ []) ++ back))) same
    (subst (λ (l : List Token). Within function_height (suc n) SpellsFunction (made_function first.token.place (Some ty) z params b) l) (sym whole)
    (record { spelled = d.giving ty z params b first.token v o q first.tokens inner back (subst (SpellsType ty) first.parts st) iv io low2.spelled iq hb.spelled; low = omega (arith, low2.low, hb.low) }))

-- its parts, as they are read
pub as_giving : (n : ℕ) (p : Place) (ty : TypeExpr) (z : Word) (params : List Typed) (b : Block) (v o q : Token) (inner back : List Token) → IsSign s.LeftParenthesis o → MaybeListed SpellsTyped params inner → IsSign s.RightParenthesis q → SpellsBlock b back
    → function_height (made_function p (Some ty) z params b) ≤ suc n → FunctionBy n p (Some ty) z (made_function p (Some ty) z params b) (o ∷ (inner ++ q ∷ back))
as_giving n p ty z params b v o q inner back io hp iq hb low =
    let f : Function = made_function p (Some ty) z params b in
    subst (λ (l : List Token). FunctionBy n p (Some ty) z f (o ∷ l)) (append_assoc inner (q ∷ []) back)
    (seq params f (o ∷ (inner ++ q ∷ [])) back (parens params o q inner io (of_maybe typed_height n SpellsTyped hp (omega arith)) iq) (of b back (record { spelled = hb; low = omega arith })))

abbrev pub PItem : ℕ → Member → List Token → Type 0
PItem n = Within member_height (suc n) SpellsProcessorItem

typed_as : (n : ℕ) (t : Token) (ts r : List Token) (a : Member) (u : List Token) → TypedMember n t.place a u → t ∷ ts ≡ u ++ r → PItem n a u
typed_as n t ts r _ _ (seq ty _ front _ st (calling z f v u iv h)) parts =
    let one = giving n st.spelled st.low t.place t ts refl z v iv f u r h parts in
    record { spelled = d.function f (front ++ v ∷ u) one.spelled; low = one.low }
typed_as n t ts r _ _ (seq ty _ front _ st (holding vs v others h iv)) parts =
    let low = listed_of var_height n SpellsVar h in
    record { spelled = d.state ty vs v front others st.spelled low.spelled iv; low = omega (arith, st.low, low.low) }

typed_found : (n : ℕ) (t : Token) (ts : List Token) (a : Member) (r : List Token) → typed_member n t.place (t ∷ ts) ≡ answer a r → Found (PItem n) Any (t ∷ ts) a r
typed_found n t ts a r h =
    let f = (meets_typed_member n t.place).sound (t ∷ ts) a r h in
    record { used = f.used; parts = f.parts; spelled = typed_as n t ts r a f.used f.spelled f.parts; follows = tt }

-- ---- members of a processor

shared_item : (n : ℕ) (x : Shared) (u : List Token) → Within shared_height (suc n) SpellsShared x u → PItem n (member.Shared x) u
shared_item n x u h = record { spelled = d.item (member.Shared x) u (d.shared x u h.spelled); low = h.low }

ends_item : (n : ℕ) (a : Member) (u : List Token) → Within member_height (suc n) SpellsItem a u → PItem n a u
ends_item n a u h = record { spelled = d.item a u h.spelled; low = h.low }

function_item : (n : ℕ) (f : Function) (u : List Token) → Within function_height (suc n) SpellsFunction f u → PItem n (member.Function f) u
function_item n f u h = record { spelled = d.function f u h.spelled; low = h.low }

processor_found_by : (n : ℕ) (t : Token) (ts : List Token) (z : TokenKind) → t.kind ≡ z → (a : Member) (r : List Token) → processor_member_by n t.place z (t ∷ ts) ≡ answer a r → Found (PItem n) Any (t ∷ ts) a r
processor_found_by n t ts (k.Reserved w.Input) is a r h = skip_found (meets_ends n t.place flow.Input) t ts a r h (λ b u i. ends_item n b (t ∷ u) (ends_as n t flow.Input (d.input t (record { kind = is })) b u i))
processor_found_by n t ts (k.Reserved w.Output) is a r h = skip_found (meets_ends n t.place flow.Output) t ts a r h (λ b u i. ends_item n b (t ∷ u) (ends_as n t flow.Output (d.output t (record { kind = is })) b u i))
processor_found_by n t ts (k.Reserved w.Struct) is a r h = skip_of_found (λ x. member.Shared x) (meets_structure n t.place) t ts a r h (λ x u i. shared_item n x (t ∷ u) (struct_as n t (record { kind = is }) x u i))
processor_found_by n t ts (k.Reserved w.Using) is a r h = skip_of_found (λ x. member.Shared x) (meets_alias n t.place) t ts a r h (λ x u i. shared_item n x (t ∷ u) (alias_as n t (record { kind = is }) x u i))
processor_found_by n t ts (k.Reserved w.Let) is a r h = skip_of_found (λ x. member.Shared x) (meets_constants n t.place) t ts a r h (λ x u i. shared_item n x (t ∷ u) (let_as n t (record { kind = is }) x u i))
processor_found_by n t ts (k.Reserved w.StaticAssert) is a r h = skip_of_found (λ x. member.Shared x) (meets_asserted n t.place) t ts a r h (λ x u i. shared_item n x (t ∷ u) (asserted_as n t (record { kind = is }) x u i))
processor_found_by n t ts (k.Reserved w.Event) is a r h = skip_found (meets_handler n t.place) t ts a r h (handler_as n t (record { kind = is }))
processor_found_by n t ts (k.Reserved w.Var) is a r h = skip_found (meets_variables n t.place) t ts a r h (variables_as n t (record { kind = is }))
processor_found_by n t ts (k.Reserved w.Processor) is a r h = skip_found (meets_latency n t.place) t ts a r h (latency_as n t (record { kind = is }))
processor_found_by n t ts (k.Reserved w.Void) is a r h = skip_of_found (λ f. member.Function f) (meets_void n t.place) t ts a r h (λ f u i. function_item n f (t ∷ u) (void_as n t (record { kind = is }) f u i))
processor_found_by n t ts (k.Reserved w.Bool) is a r h = typed_found n t ts a r h
processor_found_by n t ts (k.Reserved w.Int) is a r h = typed_found n t ts a r h
processor_found_by n t ts (k.Reserved w.Int32) is a r h = typed_found n t ts a r h
processor_found_by n t ts (k.Reserved w.Int64) is a r h = typed_found n t ts a r h
processor_found_by n t ts (k.Reserved w.Wrap) is a r h = typed_found n t ts a r h
processor_found_by n t ts (k.Reserved w.Clamp) is a r h = typed_found n t ts a r h
processor_found_by n t ts (k.Word text) is a r h = typed_found n t ts a r h
processor_found_by n t ts _ is a r h = absurd cc

processor_found : (n : ℕ) (ts : List Token) (a : Member) (r : List Token) → processor_member n ts ≡ answer a r → Found (PItem n) Any ts a r
unfolding processor_member look
processor_found n [] a r h = absurd cc
processor_found n (t ∷ ts) a r h = processor_found_by n t ts t.kind refl a r h

-- ---- members of a graph

abbrev pub GItem : ℕ → Member → List Token → Type 0
GItem n = Within member_height (suc n) SpellsGraphItem

shared_gitem : (n : ℕ) (x : Shared) (u : List Token) → Within shared_height (suc n) SpellsShared x u → GItem n (member.Shared x) u
shared_gitem n x u h = record { spelled = d.item (member.Shared x) u (d.shared x u h.spelled); low = h.low }

ends_gitem : (n : ℕ) (a : Member) (u : List Token) → Within member_height (suc n) SpellsItem a u → GItem n a u
ends_gitem n a u h = record { spelled = d.item a u h.spelled; low = h.low }

graph_found_by : (n : ℕ) (t : Token) (ts : List Token) (z : TokenKind) → t.kind ≡ z → (a : Member) (r : List Token) → graph_member_by n t.place z (t ∷ ts) ≡ answer a r → Found (GItem n) Any (t ∷ ts) a r
graph_found_by n t ts (k.Reserved w.Input) is a r h = skip_found (meets_ends n t.place flow.Input) t ts a r h (λ b u i. ends_gitem n b (t ∷ u) (ends_as n t flow.Input (d.input t (record { kind = is })) b u i))
graph_found_by n t ts (k.Reserved w.Output) is a r h = skip_found (meets_ends n t.place flow.Output) t ts a r h (λ b u i. ends_gitem n b (t ∷ u) (ends_as n t flow.Output (d.output t (record { kind = is })) b u i))
graph_found_by n t ts (k.Reserved w.Struct) is a r h = skip_of_found (λ x. member.Shared x) (meets_structure n t.place) t ts a r h (λ x u i. shared_gitem n x (t ∷ u) (struct_as n t (record { kind = is }) x u i))
graph_found_by n t ts (k.Reserved w.Using) is a r h = skip_of_found (λ x. member.Shared x) (meets_alias n t.place) t ts a r h (λ x u i. shared_gitem n x (t ∷ u) (alias_as n t (record { kind = is }) x u i))
graph_found_by n t ts (k.Reserved w.Let) is a r h = skip_of_found (λ x. member.Shared x) (meets_constants n t.place) t ts a r h (λ x u i. shared_gitem n x (t ∷ u) (let_as n t (record { kind = is }) x u i))
graph_found_by n t ts (k.Reserved w.StaticAssert) is a r h = skip_of_found (λ x. member.Shared x) (meets_asserted n t.place) t ts a r h (λ x u i. shared_gitem n x (t ∷ u) (asserted_as n t (record { kind = is }) x u i))
graph_found_by n t ts (k.Reserved w.Node) is a r h = skip_found (meets_nodes n t.place) t ts a r h (nodes_as n t (record { kind = is }))
graph_found_by n t ts (k.Reserved w.Connection) is a r h = skip_found (meets_connection n t.place) t ts a r h (connection_as n t (record { kind = is }))
graph_found_by n t ts _ is a r h = absurd cc

graph_found : (n : ℕ) (ts : List Token) (a : Member) (r : List Token) → graph_member n ts ≡ answer a r → Found (GItem n) Any ts a r
unfolding graph_member look
graph_found n [] a r h = absurd cc
graph_found n (t ∷ ts) a r h = graph_found_by n t ts t.kind refl a r h

-- ---- shared declarations, wherever they stand

-- the reserved word that they begin with, and what is read after it
pub record SharedHead (n : ℕ) (a : Shared) (u : List Token) : Type 1 where
  pub token : Token
  pub tokens : List Token
  pub parts : u ≡ token ∷ tokens
  pub first : Reserved
  pub is : IsReserved first token
  pub shared : is_shared first ≡ true
  pub read : {B : Type 0} (f : Shared → B) (r : List Token) → (skip >> shared_by n token.place first >>= (λ y. pure (f y))) (token ∷ (tokens ++ r)) ≡ answer (f a) r

pub shared_head : (n : ℕ) {a : Shared} {u : List Token} → SpellsShared a u → shared_height a ≤ suc n → SharedHead n a u
shared_head n (d.structure z all t v o q inner is iv io h iq) low = record {
  token = t;
  tokens = v ∷ o ∷ (inner ++ q ∷ []);
  parts = refl;
  first = w.Struct;
  is = is;
  shared = refl;
  read = λ f r. skip_of_read f (meets_structure n t.place) t (shared.Struct t.place z all) (v ∷ o ∷ (inner ++ q ∷ [])) r
      (seq z (shared.Struct t.place z all) (v ∷ []) (o ∷ (inner ++ q ∷ [])) (g.word z v iv) (of all (o ∷ (inner ++ q ∷ []))
      (led all o (inner ++ q ∷ []) io (seq all all inner (q ∷ []) (of_every fields_height n SpellsFields h (omega arith)) (of tt (q ∷ []) (signed tt q iq)))))) tt;
}
shared_head n (d.alias z ty t v equals q inner is iv ie st iq) low = record {
  token = t;
  tokens = v ∷ equals ∷ (inner ++ q ∷ []);
  parts = refl;
  first = w.Using;
  is = is;
  shared = refl;
  read = λ f r. skip_of_read f (meets_alias n t.place) t (shared.Using t.place z ty) (v ∷ equals ∷ (inner ++ q ∷ [])) r
      (seq z (shared.Using t.place z ty) (v ∷ []) (equals ∷ (inner ++ q ∷ [])) (g.word z v iv)
      (seq ty (shared.Using t.place z ty) (equals ∷ inner) (q ∷ []) (led ty equals inner ie (record { spelled = st; low = omega arith })) (semi q iq))) tt;
}
shared_head n (d.constants all t q inner is h iq) low = record {
  token = t;
  tokens = inner ++ q ∷ [];
  parts = refl;
  first = w.Let;
  is = is;
  shared = refl;
  read = λ f r. skip_of_read f (meets_constants n t.place) t (shared.Let t.place all) (inner ++ q ∷ []) r
      (seq all (shared.Let t.place all) inner (q ∷ []) (of_listed init_height n SpellsInit h (omega arith)) (semi q iq)) tt;
}
shared_head n (d.asserted z tokens h) low =
    let f = as_assert n h (omega arith) in
    record {
      token = f.token;
      tokens = f.tokens;
      parts = f.parts;
      first = w.StaticAssert;
      is = f.is;
      shared = refl;
      read = λ i r. skip_of_read i (meets_asserted n f.token.place) f.token (shared.Assert z) f.tokens r (of z f.tokens f.spelled) tt;
    }

-- ---- what is spelled is read

member_by : (n : ℕ) (t : Token) (ts : List Token) (z : TokenKind) → t.kind ≡ z → processor_member n (t ∷ ts) ≡ processor_member_by n t.place z (t ∷ ts)
unfolding processor_member look
member_by n t ts z is = ap (λ (x : TokenKind). processor_member_by n t.place x (t ∷ ts)) is

member_typed_by : (n : ℕ) (p : Place) (z : TokenKind) → begins_type z ≡ true → (ts : List Token) → processor_member_by n p z ts ≡ typed_member n p ts
member_typed_by n p (k.Word text) is ts = refl
member_typed_by n p (k.Reserved w.Bool) is ts = refl
member_typed_by n p (k.Reserved w.Int) is ts = refl
member_typed_by n p (k.Reserved w.Int32) is ts = refl
member_typed_by n p (k.Reserved w.Int64) is ts = refl
member_typed_by n p (k.Reserved w.Wrap) is ts = refl
member_typed_by n p (k.Reserved w.Clamp) is ts = refl
member_typed_by n p _ is ts = absurd cc

member_typed : (n : ℕ) (t : Token) (ts : List Token) → begins_type t.kind ≡ true → processor_member n (t ∷ ts) ≡ typed_member n t.place (t ∷ ts)
member_typed n t ts is = member_by n t ts t.kind refl ∙ member_typed_by n t.place t.kind is (t ∷ ts)

member_shared : (n : ℕ) (p : Place) (first : Reserved) → is_shared first ≡ true → (ts : List Token) → processor_member_by n p (k.Reserved first) ts ≡ (skip >> shared_by n p first >>= (λ y. pure (member.Shared y))) ts
member_shared n p w.Struct is ts = refl
member_shared n p w.Using is ts = refl
member_shared n p w.Let is ts = refl
member_shared n p w.StaticAssert is ts = refl
member_shared n p _ is ts = absurd cc

item_read : (n : ℕ) {a : Member} {u : List Token} → SpellsItem a u → member_height a ≤ suc n → (r : List Token) → processor_member n (u ++ r) ≡ answer a r
item_read n (d.ends _ all t others (d.input _ is) h) low r = member_by n t (others ++ r) _ is.kind ∙ skip_read (meets_ends n t.place flow.Input) t (member.Ends t.place flow.Input all) others r (as_ends n t.place flow.Input h (omega arith)) tt
item_read n (d.ends _ all t others (d.output _ is) h) low r = member_by n t (others ++ r) _ is.kind ∙ skip_read (meets_ends n t.place flow.Output) t (member.Ends t.place flow.Output all) others r (as_ends n t.place flow.Output h (omega arith)) tt
item_read n (d.shared a tokens h) low r =
    let f = shared_head n h low in
    ap (λ (l : List Token). processor_member n (l ++ r)) f.parts ∙ member_by n f.token (f.tokens ++ r) _ f.is.kind ∙ member_shared n f.token.place f.first f.shared (f.token ∷ (f.tokens ++ r)) ∙ f.read (λ y. member.Shared y) r

function_read : (n : ℕ) {a : Function} {u : List Token} → SpellsFunction a u → function_height a ≤ suc n → (r : List Token) → processor_member n (u ++ r) ≡ answer (member.Function a) r
function_read n (d.plain z params b t v o q inner back is iv io hp iq hb) low r =
    member_by n t _ _ is.kind
    ∙ skip_of_read (λ f. member.Function f) (meets_void n t.place) t (made_function t.place None z params b) (v ∷ o ∷ (inner ++ q ∷ back)) r (as_void n t z params b v o q inner back iv io hp iq hb low) tt
function_read n (d.giving ty z params b t v o q front inner back st iv io hp iq hb) low r =
    let f : Function = made_function t.place (Some ty) z params b in
    member_typed n t _ (begins_at t front (type_begins st))
    ∙ (meets_typed_member n t.place).complete (member.Function f) ((t ∷ front) ++ v ∷ o ∷ (inner ++ q ∷ back)) r
    (seq ty (member.Function f) (t ∷ front) (v ∷ o ∷ (inner ++ q ∷ back)) (record { spelled = st; low = omega arith })
    (calling z f v (o ∷ (inner ++ q ∷ back)) iv (as_giving n t.place ty z params b v o q inner back io hp iq hb low))) tt

processor_read : (n : ℕ) {a : Member} {u : List Token} → SpellsProcessorItem a u → member_height a ≤ suc n → (r : List Token) → processor_member n (u ++ r) ≡ answer a r
processor_read n (d.item a tokens h) low r = item_read n h low r
processor_read n (d.function a tokens h) low r = function_read n h low r
processor_read n (d.handler z a b t v o q inner back is iv io ha iq hb) low r =
    let x : Member = member.Handler t.place z a b in
    member_by n t _ _ is.kind
    ∙ skip_read (meets_handler n t.place) t x (v ∷ o ∷ (inner ++ q ∷ back)) r
    (seq z x (v ∷ []) (o ∷ (inner ++ q ∷ back)) (g.word z v iv) (seq a x (o ∷ inner) (q ∷ back) (led a o inner io (record { spelled = ha; low = omega arith })) (of b (q ∷ back) (led b q back iq (record { spelled = hb; low = omega arith }))))) tt
processor_read n (d.variables all t q inner is h iq) low r =
    member_by n t _ _ is.kind
    ∙ skip_read (meets_variables n t.place) t (member.Var t.place all) (inner ++ q ∷ []) r (seq all (member.Var t.place all) inner (q ∷ []) (of_listed init_height n SpellsInit h (omega arith)) (semi q iq)) tt
processor_read n (d.state ty all q front others st h iq) low r =
    let f = type_begins st in
    let tail : List Token = others ++ q ∷ [] in
    let whole : (front ++ tail) ++ r ≡ f.token ∷ ((f.tokens ++ tail) ++ r) = ap (λ (l : List Token). (l ++ tail) ++ r) f.parts in
    ap (processor_member n) whole ∙ member_typed n f.token ((f.tokens ++ tail) ++ r) f.begins ∙ ap (typed_member n f.token.place) (sym whole)
    ∙ (meets_typed_member n f.token.place).complete (member.State ty all) (front ++ tail) r
    (seq ty (member.State ty all) front tail (record { spelled = st; low = omega arith }) (holding all q others (of_listed var_height n SpellsVar h (omega arith)) iq)) tt
processor_read n (d.latency x t dot v equals q inner is id iv ie hx iq) low r =
    let a : Member = member.Latency t.place x in
    member_by n t _ _ is.kind
    ∙ skip_read (meets_latency n t.place) t a (dot ∷ v ∷ equals ∷ (inner ++ q ∷ [])) r
    (seq x a (dot ∷ v ∷ equals ∷ inner) (q ∷ []) (seq tt x (dot ∷ v ∷ []) (equals ∷ inner) (led tt dot (v ∷ []) id (texted tt v iv)) (led x equals inner ie (record { spelled = hx; low = omega arith }))) (semi q iq)) tt

pub meets_processor_member : (n : ℕ) → Meets (processor_member n) (PItem n) Any Any
meets_processor_member n = record { sound = processor_found n; complete = λ a u r h any. processor_read n h.spelled h.low r }

graph_by : (n : ℕ) (t : Token) (ts : List Token) (z : TokenKind) → t.kind ≡ z → graph_member n (t ∷ ts) ≡ graph_member_by n t.place z (t ∷ ts)
unfolding graph_member look
graph_by n t ts z is = ap (λ (x : TokenKind). graph_member_by n t.place x (t ∷ ts)) is

graph_shared : (n : ℕ) (p : Place) (first : Reserved) → is_shared first ≡ true → (ts : List Token) → graph_member_by n p (k.Reserved first) ts ≡ (skip >> shared_by n p first >>= (λ y. pure (member.Shared y))) ts
graph_shared n p w.Struct is ts = refl
graph_shared n p w.Using is ts = refl
graph_shared n p w.Let is ts = refl
graph_shared n p w.StaticAssert is ts = refl
graph_shared n p _ is ts = absurd cc

graph_item_read : (n : ℕ) {a : Member} {u : List Token} → SpellsItem a u → member_height a ≤ suc n → (r : List Token) → graph_member n (u ++ r) ≡ answer a r
graph_item_read n (d.ends _ all t others (d.input _ is) h) low r = graph_by n t (others ++ r) _ is.kind ∙ skip_read (meets_ends n t.place flow.Input) t (member.Ends t.place flow.Input all) others r (as_ends n t.place flow.Input h (omega arith)) tt
graph_item_read n (d.ends _ all t others (d.output _ is) h) low r = graph_by n t (others ++ r) _ is.kind ∙ skip_read (meets_ends n t.place flow.Output) t (member.Ends t.place flow.Output all) others r (as_ends n t.place flow.Output h (omega arith)) tt
graph_item_read n (d.shared a tokens h) low r =
    let f = shared_head n h low in
    ap (λ (l : List Token). graph_member n (l ++ r)) f.parts ∙ graph_by n f.token (f.tokens ++ r) _ f.is.kind ∙ graph_shared n f.token.place f.first f.shared (f.token ∷ (f.tokens ++ r)) ∙ f.read (λ y. member.Shared y) r

graph_read : (n : ℕ) {a : Member} {u : List Token} → SpellsGraphItem a u → member_height a ≤ suc n → (r : List Token) → graph_member n (u ++ r) ≡ answer a r
graph_read n (d.item a tokens h) low r = graph_item_read n h low r
graph_read n (d.nodes all t q inner is h iq) low r =
    graph_by n t _ _ is.kind ∙ skip_read (meets_nodes n t.place) t (member.Nodes t.place all) (inner ++ q ∷ []) r (as_nodes n t.place h (omega arith) q iq) tt
graph_read n (d.connection all t others is h) low r =
    graph_by n t _ _ is.kind ∙ skip_read (meets_connection n t.place) t (member.Connection t.place all) others r (as_connection n t.place h (omega arith)) tt

pub meets_graph_member : (n : ℕ) → Meets (graph_member n) (GItem n) Any Any
meets_graph_member n = record { sound = graph_found n; complete = λ a u r h any. graph_read n h.spelled h.low r }

-- ---- what members begin with

assert_other : {a : Assert} {u : List Token} → SpellsAssert a u → First (is_other s.RightBrace) u
assert_other (g.bare a t o v end inner is io sx iv ie) = first_is (is_other s.RightBrace) t _ _ is.kind refl
assert_other (g.told a bytes t o comma x v end inner is io sx im ix iv ie) = first_is (is_other s.RightBrace) t _ _ is.kind refl

pub shared_other : {a : Shared} {u : List Token} → SpellsShared a u → First (is_other s.RightBrace) u
shared_other (d.structure z all t v o q inner is iv io h iq) = first_is (is_other s.RightBrace) t _ _ is.kind refl
shared_other (d.alias z ty t v equals q inner is iv ie st iq) = first_is (is_other s.RightBrace) t _ _ is.kind refl
shared_other (d.constants all t q inner is h iq) = first_is (is_other s.RightBrace) t _ _ is.kind refl
shared_other (d.asserted z tokens h) = assert_other h

item_other : {a : Member} {u : List Token} → SpellsItem a u → First (is_other s.RightBrace) u
item_other (d.ends _ all t others (d.input _ is) h) = first_is (is_other s.RightBrace) t others _ is.kind refl
item_other (d.ends _ all t others (d.output _ is) h) = first_is (is_other s.RightBrace) t others _ is.kind refl
item_other (d.shared a tokens h) = shared_other h

pub function_other : {a : Function} {u : List Token} → SpellsFunction a u → First (is_other s.RightBrace) u
function_other (d.plain z params b t v o q inner back is iv io hp iq hb) = first_is (is_other s.RightBrace) t _ _ is.kind refl
function_other (d.giving ty z params b t v o q front inner back st iv io hp iq hb) = first_append (type_other st) (v ∷ o ∷ (inner ++ q ∷ back))

pub processor_other : {a : Member} {u : List Token} → SpellsProcessorItem a u → First (is_other s.RightBrace) u
processor_other (d.item a tokens h) = item_other h
processor_other (d.function a tokens h) = function_other h
processor_other (d.handler z a b t v o q inner back is iv io ha iq hb) = first_is (is_other s.RightBrace) t _ _ is.kind refl
processor_other (d.variables all t q inner is h iq) = first_is (is_other s.RightBrace) t _ _ is.kind refl
processor_other (d.state ty all q front others st h iq) = first_append (type_other st) (others ++ q ∷ [])
processor_other (d.latency x t dot v equals q inner is id iv ie hx iq) = first_is (is_other s.RightBrace) t _ _ is.kind refl

pub graph_other : {a : Member} {u : List Token} → SpellsGraphItem a u → First (is_other s.RightBrace) u
graph_other (d.item a tokens h) = item_other h
graph_other (d.nodes all t q inner is h iq) = first_is (is_other s.RightBrace) t _ _ is.kind refl
graph_other (d.connection all t others is h) = first_is (is_other s.RightBrace) t others _ is.kind refl

-- ---- and how high they are at least

pub shared_some : (a : Shared) → 1 ≤ shared_height a
shared_some (shared.Struct p z all) = omega arith
shared_some (shared.Using p z ty) = omega arith
shared_some (shared.Let p all) = omega arith
shared_some (shared.Assert z) = omega arith

pub member_some : (a : Member) → 1 ≤ member_height a
member_some (member.Ends p way all) = omega arith
member_some (member.Shared a) = shared_some a
member_some (member.Function a) = omega arith
member_some (member.Handler p z a b) = omega arith
member_some (member.Var p all) = omega arith
member_some (member.State ty all) = omega arith
member_some (member.Latency p x) = omega arith
member_some (member.Nodes p all) = omega arith
member_some (member.Connection p all) = omega arith
