-- What the parsers of declarations and files meet, and with that what a file's parser answers and refuses.
use Rattle.std.proofs.Common.{◌≡◌, ℕ, zero, suc, ◌≤◌, true, false, List, [], ◌∷◌, ◌++◌, Some, None, Err, refl, ap, sym, subst, ◌∙◌, append-nil, arith}
use Rattle.cm_base.specs.declared.place.Place.{Place}
use Rattle.cm_tree.specs.declared.token.Token.{Token}
use Rattle.cm_tree.specs.declared.token.TokenKind.{TokenKind}
use Rattle.cm_tree.specs.declared.token.TokenKind.TheVariants as k
use Rattle.cm_tree.specs.declared.sign.Sign.TheVariants as s
use Rattle.cm_tree.specs.declared.reserved.Reserved.{Reserved}
use Rattle.cm_tree.specs.declared.reserved.Reserved.TheVariants as w
use Rattle.cm_tree.specs.declared.path.Path.{Path}
use Rattle.cm_tree.specs.declared.shared.Shared.{Shared}
use Rattle.cm_tree.specs.declared.shared.Function.{Function}
use Rattle.cm_tree.specs.declared.member.Member.{Member}
use Rattle.cm_tree.specs.declared.decl.UnitDecl.{UnitDecl}
use Rattle.cm_tree.specs.declared.decl.Decl.{Decl}
use Rattle.cm_tree.specs.declared.decl.Decl.TheVariants as decls_of
use Rattle.cm_tree.specs.declared.file.File.{File}
use Rattle.cm_tree.specs.Faults.{IsFile, IsFault, place_of}
use Rattle.cm_tree.specs.StmtHeights.{decl_height, decl_height-Namespace, decl_height-Processor, decl_height-Graph, decl_height-Shared, decl_height-Function, file_height, type_height, shared_height, function_height}
use Rattle.cm_tree.specs.Lists.{highest, highest-nil, highest-cons, Every, Further, Listed, MaybeListed, Optional}
use Rattle.cm_tree.specs.Lists as lists
use Rattle.cm_tree.specs.Spelling.{IsReserved, SpellsPath, SpellsType}
use Rattle.cm_tree.specs.StmtSpelling.{SpellsWord, SpellsTyped, SpellsInit, SpellsVar, SpellsAssert, SpellsBlock}
use Rattle.cm_tree.specs.StmtSpelling as g
use Rattle.cm_tree.specs.DeclSpelling.{IsText, SpellsKey, SpellsKeys, IsFlow, IsKind, SpellsEndName, SpellsEnd, SpellsEnds, SpellsFields, SpellsShared, SpellsFunction, SpellsNodeArgs, SpellsBracketed, SpellsFactor, SpellsNode, SpellsDotted, SpellsPoint, SpellsDelay, SpellsLink, SpellsLinks, SpellsItem, SpellsProcessorItem, SpellsGraphItem, SpellsParam, SpellsParams, SpellsUnit, SpellsDecl, SpellsDecls, SpellsFile}
use Rattle.cm_tree.specs.DeclSpelling as d
use Rattle.token_reader.specs.Parsers.{Parser, ◌>>=◌, ◌>>◌, pure, look, sees, skip, is_other, is_any, same_sign}
use Rattle.token_reader.specs.Lists.{text}
use Rattle.token_reader.specs.Local.{Local, Takes}
use Rattle.token_reader.proofs.Inverses.{answer, bind_ok, given, seen}
use Rattle.cm_parse_expr.specs.Reading.{colons}
use Rattle.file_grammar.proofs.Meets.{Found, Meets, Any, Not, Ended, meets_while}
use Rattle.file_grammar.proofs.Spelled.{Within, TypeEnds, meets_type, meets_path, meets_word}
use Rattle.file_grammar.proofs.Shapes.{signed, Seq, seq, Of, of, Led, led, meets_seq, meets_of, meets_led, starts_word, type_before_word, skip_found, skip_read, skip_of_found, skip_of_read}
use Rattle.file_grammar.proofs.Lows.{every_of, of_every}
use Rattle.file_grammar.proofs.FirstTokens.{First, first_is}
use Rattle.file_grammar.specs.Members.{is_shared, shared_by}
use Rattle.file_grammar.specs.Files.{params, typed_function, namespace_of, decl_by, one, decl, decls}
use Rattle.file_grammar.proofs.FarDecls.{decl_reads}
use Rattle.file_grammar.proofs.FirstTokens.{begins_type, type_begins, begins_at}
use Rattle.file_grammar.proofs.MemberParts.{Braces, meets_in_braces}
use Rattle.file_grammar.proofs.MemberEnds.{FunctionBy, made_function, meets_structure, struct_as, meets_alias, alias_as, meets_constants, let_as, meets_asserted, asserted_as, meets_function_of, meets_void, void_as, as_void}
use Rattle.file_grammar.proofs.MemberItems.{giving, as_giving, shared_head, shared_other, function_other, shared_some}
use Rattle.file_grammar.proofs.Units.{UnitIn, meets_processor, meets_graph, unit_as, unit_head}
use Rattle.file_grammar.proofs.Refusals.{fault, one_file}

abbrev pub DeclIn : ℕ → Decl → List Token → Type 0
DeclIn n = Within decl_height n SpellsDecl

-- ---- functions with a result

abbrev GivingBy : ℕ → Place → Function → List Token → Type 0
GivingBy n p = Seq (Within type_height n SpellsType) (λ ty. Seq SpellsWord (λ z. FunctionBy n p (Some ty) z))

meets_giving : (n : ℕ) (p : Place) → Meets (typed_function n p) (GivingBy n p) Any Any
unfolding typed_function
meets_giving n p = meets_seq (meets_type n) (λ ty. meets_seq meets_word (λ z. meets_function_of n p (Some ty) z) (λ z b v r h i. tt)) (λ ty b v r h i. starts_word (TypeEnds ty) (type_before_word ty) b v r h)

giving_as : (n : ℕ) (t : Token) (ts r : List Token) (f : Function) (u : List Token) → GivingBy n t.place f u → t ∷ ts ≡ u ++ r → Within function_height (suc n) SpellsFunction f u
giving_as n t ts r _ _ (seq ty _ front _ st (seq z f _ u (g.word _ v iv) h)) parts = giving n st.spelled st.low t.place t ts refl z v iv f u r h parts

function_decl : (n : ℕ) (f : Function) (u : List Token) → Within function_height (suc n) SpellsFunction f u → DeclIn (suc n) (decls_of.Function f) u
function_decl n f u h = record { spelled = d.function f u h.spelled; low = omega (arith, decl_height-Function f, h.low) }

shared_decl : (n : ℕ) (x : Shared) (u : List Token) → Within shared_height (suc n) SpellsShared x u → DeclIn (suc n) (decls_of.Shared x) u
shared_decl n x u h = record { spelled = d.shared x u h.spelled; low = omega (arith, decl_height-Shared x, h.low) }

processor_decl : (n : ℕ) (x : UnitDecl) (u : List Token) → UnitIn n w.Processor SpellsProcessorItem x u → DeclIn (suc n) (decls_of.Processor x) u
processor_decl n x u h = record { spelled = d.processor x u h.spelled; low = omega (arith, decl_height-Processor x, h.low) }

graph_decl : (n : ℕ) (x : UnitDecl) (u : List Token) → UnitIn n w.Graph SpellsGraphItem x u → DeclIn (suc n) (decls_of.Graph x) u
graph_decl n x u h = record { spelled = d.graph x u h.spelled; low = omega (arith, decl_height-Graph x, h.low) }

giving_found : (n : ℕ) (t : Token) (ts : List Token) (a : Decl) (r : List Token) → (typed_function n t.place >>= (λ f. pure (decls_of.Function f))) (t ∷ ts) ≡ answer a r → Found (DeclIn (suc n)) Any (t ∷ ts) a r
giving_found n t ts a r h =
    let c = bind_ok (typed_function n t.place (t ∷ ts)) (λ f. pure (decls_of.Function f)) a r h in
    let f = (meets_giving n t.place).sound (t ∷ ts) c.0 c.1 c.2 in
    given (λ z l. Found (DeclIn (suc n)) Any (t ∷ ts) z l) (decls_of.Function c.0) a c.1 r c.3
    (record { used = f.used; parts = f.parts; spelled = function_decl n c.0 f.used (giving_as n t ts c.1 c.0 f.used f.spelled f.parts); follows = tt })

-- ---- declarations in declarations

decls_to : {xs : List Decl} {u : List Token} → Every SpellsDecl xs u → SpellsDecls xs u
decls_to lists.none = d.no_decls
decls_to (lists.more z zs front others one rest) = d.decls z zs front others one (decls_to rest)

of_decls : {xs : List Decl} {u : List Token} → SpellsDecls xs u → Every SpellsDecl xs u
of_decls d.no_decls = lists.none
of_decls (d.decls z zs front others one rest) = lists.more z zs front others one (of_decls rest)

unit_other : {first : Reserved} {P : Member → List Token → Type 0} {a : UnitDecl} {u : List Token} → SpellsUnit first P a u → First (is_other s.RightBrace) u
unit_other (d.«unit» z all marks members t v o q front middle inner is iv ha hk io h iq) = first_is (is_other s.RightBrace) t _ _ is.kind refl

decl_other : {a : Decl} {u : List Token} → SpellsDecl a u → First (is_other s.RightBrace) u
decl_other (d.namespace x all t o q front inner is sx io ss iq) = first_is (is_other s.RightBrace) t _ _ is.kind refl
decl_other (d.processor a tokens h) = unit_other h
decl_other (d.graph a tokens h) = unit_other h
decl_other (d.shared a tokens h) = shared_other h
decl_other (d.function a tokens h) = function_other h

module _ (n : ℕ) (decl : Parser Decl) (local : Local decl) (takes : Takes decl) (m : Meets decl (DeclIn n) Any Any) where
  abbrev NamespaceBy : Place → Decl → List Token → Type 0
  NamespaceBy p = Seq SpellsPath (λ q. Of (λ all. decls_of.Namespace p q all) (Led s.LeftBrace (Braces (DeclIn n))))

  path_brace : {q : Path} {p : Place} (b : Decl) (v r : List Token) → Of (λ all. decls_of.Namespace p q all) (Led s.LeftBrace (Braces (DeclIn n))) b v → sees colons (v ++ r) ≡ false
  unfolding same_sign
  path_brace _ _ r (of _ _ (led _ o u io h)) = seen colons o (u ++ r) _ io.kind false refl

  meets_namespace : (p : Place) → Meets (namespace_of n decl p) (NamespaceBy p) Any Any
  unfolding namespace_of
  meets_namespace p = meets_seq meets_path
      (λ q. meets_of {G = Any} {M = Any} (λ all. decls_of.Namespace p q all) (meets_led s.LeftBrace (meets_in_braces decl local takes m (λ x v h. decl_other h.spelled))) (λ a r f. tt) (λ a r f. tt))
      (λ q b v r h i. path_brace b v r h)

  namespace_as : (t : Token) → IsReserved w.Namespace t → (a : Decl) (u : List Token) → NamespaceBy t.place a u → DeclIn (suc n) a (t ∷ u)
  namespace_as t is _ _ (seq q _ front _ sq (of _ _ (led all o _ io (seq _ _ inner _ h (of _ _ (signed _ v iv)))))) =
      let rows = every_of decl_height n SpellsDecl h in
      record { spelled = d.namespace q all t o v front inner is sq io (decls_to rows.spelled) iv; low = omega (arith, decl_height-Namespace t.place q all, rows.low) }

  reserved_found : (t : Token) (ts : List Token) (z : Reserved) → t.kind ≡ k.Reserved z → (a : Decl) (r : List Token) → decl_by n decl t.place (k.Reserved z) (t ∷ ts) ≡ answer a r → Found (DeclIn (suc n)) Any (t ∷ ts) a r
  reserved_found t ts w.Namespace is a r h = skip_found (meets_namespace t.place) t ts a r h (namespace_as t (record { kind = is }))
  reserved_found t ts w.Processor is a r h = skip_of_found (λ x. decls_of.Processor x) (meets_processor n t.place) t ts a r h (λ x u i. processor_decl n x (t ∷ u) (unit_as n w.Processor SpellsProcessorItem t (record { kind = is }) x u i))
  reserved_found t ts w.Graph is a r h = skip_of_found (λ x. decls_of.Graph x) (meets_graph n t.place) t ts a r h (λ x u i. graph_decl n x (t ∷ u) (unit_as n w.Graph SpellsGraphItem t (record { kind = is }) x u i))
  reserved_found t ts w.Struct is a r h = skip_of_found (λ x. decls_of.Shared x) (meets_structure n t.place) t ts a r h (λ x u i. shared_decl n x (t ∷ u) (struct_as n t (record { kind = is }) x u i))
  reserved_found t ts w.Using is a r h = skip_of_found (λ x. decls_of.Shared x) (meets_alias n t.place) t ts a r h (λ x u i. shared_decl n x (t ∷ u) (alias_as n t (record { kind = is }) x u i))
  reserved_found t ts w.Let is a r h = skip_of_found (λ x. decls_of.Shared x) (meets_constants n t.place) t ts a r h (λ x u i. shared_decl n x (t ∷ u) (let_as n t (record { kind = is }) x u i))
  reserved_found t ts w.StaticAssert is a r h = skip_of_found (λ x. decls_of.Shared x) (meets_asserted n t.place) t ts a r h (λ x u i. shared_decl n x (t ∷ u) (asserted_as n t (record { kind = is }) x u i))
  reserved_found t ts w.Void is a r h = skip_of_found (λ f. decls_of.Function f) (meets_void n t.place) t ts a r h (λ f u i. function_decl n f (t ∷ u) (void_as n t (record { kind = is }) f u i))
  reserved_found t ts w.Bool is a r h = giving_found n t ts a r h
  reserved_found t ts w.Int is a r h = giving_found n t ts a r h
  reserved_found t ts w.Int32 is a r h = giving_found n t ts a r h
  reserved_found t ts w.Int64 is a r h = giving_found n t ts a r h
  reserved_found t ts w.Wrap is a r h = giving_found n t ts a r h
  reserved_found t ts w.Clamp is a r h = giving_found n t ts a r h
  reserved_found t ts _ is a r h = absurd cc

  by_found : (t : Token) (ts : List Token) (z : TokenKind) → t.kind ≡ z → (a : Decl) (r : List Token) → decl_by n decl t.place z (t ∷ ts) ≡ answer a r → Found (DeclIn (suc n)) Any (t ∷ ts) a r
  by_found t ts (k.Reserved z) is a r h = reserved_found t ts z is a r h
  by_found t ts (k.Word text) is a r h = giving_found n t ts a r h
  by_found t ts _ is a r h = absurd cc

  one_found : (ts : List Token) (a : Decl) (r : List Token) → one n decl ts ≡ answer a r → Found (DeclIn (suc n)) Any ts a r
  unfolding one look
  one_found [] a r h = absurd cc
  one_found (t ∷ ts) a r h = by_found t ts t.kind refl a r h

  -- ---- and what is spelled is read

  one_by : (t : Token) (ts : List Token) (z : TokenKind) → t.kind ≡ z → one n decl (t ∷ ts) ≡ decl_by n decl t.place z (t ∷ ts)
  unfolding one look
  one_by t ts z is = ap (λ (x : TokenKind). decl_by n decl t.place x (t ∷ ts)) is

  typed_by : (p : Place) (z : TokenKind) → begins_type z ≡ true → (ts : List Token) → decl_by n decl p z ts ≡ (typed_function n p >>= (λ f. pure (decls_of.Function f))) ts
  typed_by p (k.Word text) is ts = refl
  typed_by p (k.Reserved w.Bool) is ts = refl
  typed_by p (k.Reserved w.Int) is ts = refl
  typed_by p (k.Reserved w.Int32) is ts = refl
  typed_by p (k.Reserved w.Int64) is ts = refl
  typed_by p (k.Reserved w.Wrap) is ts = refl
  typed_by p (k.Reserved w.Clamp) is ts = refl
  typed_by p _ is ts = absurd cc

  shared_is : (p : Place) (z : Reserved) → is_shared z ≡ true → (ts : List Token) → decl_by n decl p (k.Reserved z) ts ≡ (skip >> shared_by n p z >>= (λ y. pure (decls_of.Shared y))) ts
  shared_is p w.Struct is ts = refl
  shared_is p w.Using is ts = refl
  shared_is p w.Let is ts = refl
  shared_is p w.StaticAssert is ts = refl
  shared_is p _ is ts = absurd cc

  function_read : {a : Function} {u : List Token} → SpellsFunction a u → function_height a ≤ suc n → (r : List Token) → one n decl (u ++ r) ≡ answer (decls_of.Function a) r
  function_read (d.plain z params b t v o q inner back is iv io hp iq hb) low r =
      one_by t _ _ is.kind
      ∙ skip_of_read (λ f. decls_of.Function f) (meets_void n t.place) t (made_function t.place None z params b) (v ∷ o ∷ (inner ++ q ∷ back)) r (as_void n t z params b v o q inner back iv io hp iq hb low) tt
  function_read (d.giving ty z params b t v o q front inner back st iv io hp iq hb) low r =
      let f : Function = made_function t.place (Some ty) z params b in
      one_by t _ t.kind refl ∙ typed_by t.place t.kind (begins_at t front (type_begins st)) _
      ∙ (meets_of {G = Any} {M = Any} (λ x. decls_of.Function x) (meets_giving n t.place) (λ a r f. tt) (λ a r f. tt)).complete (decls_of.Function f) ((t ∷ front) ++ v ∷ o ∷ (inner ++ q ∷ back)) r
      (of f ((t ∷ front) ++ v ∷ o ∷ (inner ++ q ∷ back)) (seq ty f (t ∷ front) (v ∷ o ∷ (inner ++ q ∷ back)) (record { spelled = st; low = omega arith })
      (seq z f (v ∷ []) (o ∷ (inner ++ q ∷ back)) (g.word z v iv) (as_giving n t.place ty z params b v o q inner back io hp iq hb low)))) tt

  one_read : {a : Decl} {u : List Token} → SpellsDecl a u → decl_height a ≤ suc n → (r : List Token) → one n decl (u ++ r) ≡ answer a r
  one_read (d.namespace q all t o v front inner is sq io ss iv) low r =
      let a : Decl = decls_of.Namespace t.place q all in
      one_by t _ _ is.kind
      ∙ skip_read (meets_namespace t.place) t a (front ++ o ∷ (inner ++ v ∷ [])) r
      (seq q a front (o ∷ (inner ++ v ∷ [])) sq (of all (o ∷ (inner ++ v ∷ [])) (led all o (inner ++ v ∷ []) io
      (seq all all inner (v ∷ []) (of_every decl_height n SpellsDecl (of_decls ss) (omega (arith, decl_height-Namespace t.place q all))) (of tt (v ∷ []) (signed tt v iv)))))) tt
  one_read (d.processor a tokens h) low r =
      let f = unit_head n w.Processor SpellsProcessorItem h (omega (arith, decl_height-Processor a)) in
      ap (λ (l : List Token). one n decl (l ++ r)) f.parts ∙ one_by f.token (f.tokens ++ r) _ f.is.kind ∙ skip_of_read (λ x. decls_of.Processor x) (meets_processor n f.token.place) f.token a f.tokens r f.spelled tt
  one_read (d.graph a tokens h) low r =
      let f = unit_head n w.Graph SpellsGraphItem h (omega (arith, decl_height-Graph a)) in
      ap (λ (l : List Token). one n decl (l ++ r)) f.parts ∙ one_by f.token (f.tokens ++ r) _ f.is.kind ∙ skip_of_read (λ x. decls_of.Graph x) (meets_graph n f.token.place) f.token a f.tokens r f.spelled tt
  one_read (d.shared a tokens h) low r =
      let f = shared_head n h (omega (arith, decl_height-Shared a)) in
      ap (λ (l : List Token). one n decl (l ++ r)) f.parts ∙ one_by f.token (f.tokens ++ r) _ f.is.kind ∙ shared_is f.token.place f.first f.shared (f.token ∷ (f.tokens ++ r)) ∙ f.read (λ y. decls_of.Shared y) r
  one_read (d.function a tokens h) low r = function_read h (omega (arith, decl_height-Function a)) r

decl_some : {a : Decl} {u : List Token} → SpellsDecl a u → 1 ≤ decl_height a
decl_some (d.namespace q all t o v front inner is sq io ss iv) = omega (arith, decl_height-Namespace t.place q all)
decl_some (d.processor a tokens h) = omega (arith, decl_height-Processor a)
decl_some (d.graph a tokens h) = omega (arith, decl_height-Graph a)
decl_some (d.shared a tokens h) = omega (arith, decl_height-Shared a, shared_some a)
decl_some (d.function a tokens h) = omega (arith, decl_height-Function a)

no_decl : Meets (decl 0) (DeclIn 0) Any Any
unfolding decl
no_decl = record { sound = λ ts b r h. absurd cc; complete = λ b u r h needs. absurd (omega (arith, decl_some h.spelled, h.low)) }

more_decl : (n : ℕ) → Meets (decl n) (DeclIn n) Any Any → Meets (decl (suc n)) (DeclIn (suc n)) Any Any
unfolding decl
more_decl n m = let reads = decl_reads n in record {
  sound = one_found n (decl n) reads.local reads.takes m;
  complete = λ b u r h any. one_read n (decl n) reads.local reads.takes m h.spelled h.low r;
}

-- a declaration is read exactly where it is spelled, no higher than n
pub meets_decl : (n : ℕ) → Meets (decl n) (DeclIn n) Any Any
meets_decl zero = no_decl
meets_decl (suc n) = more_decl n (meets_decl n)

-- ---- files

none_left : (r : List Token) → sees is_any r ≡ false → r ≡ []
unfolding sees
none_left [] is = refl
none_left (t ∷ r) is = absurd cc

any_first : (u : List Token) → First (is_other s.RightBrace) u → (r : List Token) → sees is_any (u ++ r) ≡ true
unfolding sees
any_first u f r = ap (λ (l : List Token). sees is_any (l ++ r)) f.parts

decl_there : (n : ℕ) (x : Decl) (v r : List Token) → DeclIn n x v → sees is_any (v ++ r) ≡ true
decl_there n x v r h = any_first v (decl_other h.spelled) r

pub record Whole (n : ℕ) (ts : List Token) (all : List Decl) (r : List Token) : Type 0 where
  pub none : r ≡ []
  pub file : IsFile n ts (record { decls = all })

file_of : (n : ℕ) (all : List Decl) (u : List Token) → Every (DeclIn n) all u → IsFile n u (record { decls = all })
file_of n all u h = let rows = every_of decl_height n SpellsDecl h in record { spelled = d.file all u (decls_to rows.spelled); low = rows.low }

meets_decls : (n : ℕ) → Meets (decls n) (Every (DeclIn n)) (Not is_any) (Ended is_any Any)
unfolding decls
meets_decls n = let reads = decl_reads n in meets_while is_any (decl n) reads.local reads.takes (meets_decl n) (λ x v r h. decl_there n x v r h) (λ x y v r h. tt)

-- what is answered is the file that the tokens spell, no higher than n
pub file_sound : (n : ℕ) (ts : List Token) (all : List Decl) (r : List Token) → decls n ts ≡ answer all r → Whole n ts all r
file_sound n ts all r h =
    let f = (meets_decls n).sound ts all r h in
    let none = none_left r f.follows in
    let whole : ts ≡ f.used = f.parts ∙ ap (λ (l : List Token). f.used ++ l) none ∙ append-nil f.used in
    record { none = none; file = subst (λ (l : List Token). IsFile n l (record { decls = all })) (sym whole) (file_of n all f.used f.spelled) }

file_read : (n : ℕ) {f : File} {ts : List Token} → SpellsFile f ts → file_height f ≤ n → decls n ts ≡ answer f.decls []
unfolding sees
file_read n (d.file all ts ss) low =
    ap (decls n) (sym (append-nil ts)) ∙ (meets_decls n).complete all ts [] (of_every decl_height n SpellsDecl (of_decls ss) low) (record { ended = refl; needs = λ x. tt })

-- what the tokens spell, no higher than n, is answered
pub file_complete : (n : ℕ) (ts : List Token) (f : File) → IsFile n ts f → decls n ts ≡ answer f.decls []
file_complete n ts f h = file_read n h.spelled h.low

-- ---- and so

-- a refusal is at a place through which no file begins
pub file_fault : (n : ℕ) (ts e : List Token) (last : Place) → decls n ts ≡ Err e → IsFault n ts last (place_of last e)
file_fault n = fault n (file_complete n)

-- the tokens spell one file at most
pub one_file_only : (n : ℕ) (ts : List Token) (f g : File) → IsFile n ts f → IsFile n ts g → f.decls ≡ g.decls
one_file_only n = one_file n (file_complete n)
