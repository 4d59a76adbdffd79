-- The steps of functions, handlers, nodes and other parts.
use Rattle.std.specs.Prelude.{◌≡◌, refl, ℕ, suc, ◌+◌, ◌<◌, List, [], ◌∷◌, ◌++◌, length, map, take, flat_map, slice_index_or, Option, Some, None, Result, Ok, Err, OnOk}
use Rattle.std.proofs.Common.{ap, sym, ◌∙◌, subst, arith, get_or}
use Rattle.std.proofs.Math.Seq.{take-length}
use Rattle.std.proofs.lemmas.List.{append-nil, append_assoc, length-take-le}
use Rattle.cm_tree.specs.declared.path.Path.{Path}
use Rattle.cm_tree.specs.declared.path.Word.{Word}
use Rattle.cm_tree.specs.declared.expr.Expr.{Expr}
use Rattle.cm_tree.specs.declared.expr.Expr.TheVariants as e
use Rattle.cm_tree.specs.declared.type_expr.Arg.{Arg}
use Rattle.cm_tree.specs.declared.type_expr.Arg.TheVariants as g
use Rattle.cm_tree.specs.declared.type_expr.Typed.{Typed}
use Rattle.cm_tree.specs.declared.stmt.Block.{Block}
use Rattle.cm_tree.specs.declared.shared.Function.{Function as FunctionDecl}
use Rattle.cm_tree.specs.declared.member.Key.{Key}
use Rattle.cm_tree.specs.declared.member.Member.{Member}
use Rattle.cm_tree.specs.declared.decl.Param.{Param}
use Rattle.cm_tree.specs.declared.decl.UnitDecl.{UnitDecl}
use Rattle.cm_meaning.specs.Declared.{Home, Function, Declared}
use Rattle.cm_meaning.specs.Scopes.{Around, declared, inside_of, parameter, scoped}
use Rattle.cm_meaning.specs.Sites.{Site, site, Taken, TakesAny, GivesNode, Defines, Opens, expr_sites}
use Rattle.cm_meaning.specs.BodySites.{block_sites}
use Rattle.cm_meaning.specs.PatchSites.{function_sites, given_all, given_sites, in_function, keys_sites, member_sites, param_sites, result_sites, takes, typed_sites}
use Rattle.scope_walk.specs.Bodies.{alone}
use Rattle.scope_walk.specs.Steps.{Step, Stand, Enters, Leaves, EntersText, LeavesText, Meets, MeetsGiven, MeetsParams, MeetsUnit, Walks, Reads, whole_sites}
use Rattle.scope_walk.proofs.StepLemmas.{ok-map, reads-at, reads-meet, reads-none, reads-step, reads-then, reads-walks, walks-then, take-more}
use Rattle.scope_walk.proofs.ScopeLemmas.{scope-part, text-part, then-part}
use Rattle.declaration_walk.specs.Declares.{filled, Declares, arg_sites, handled_sites, inner_sites, own_sites, unnamed, value_sites}
use Rattle.declaration_walk.proofs.NameLemmas.{in_front-new}

-- ---- scopes with names

filled-scope : (r : Around) (xs : List Declared) → filled (scoped r []) xs ≡ scoped r xs
filled-scope r xs = ap (λ z. record r { scopes = z }) (in_front-new xs r.scopes)

-- a scope begins, names are declared, a part is read, and the scope ends
pub names-part : {E : Type 0} (a b c d e : List Step) (names : Home → List Declared) (s : Around → List Site) (o : Result (Unit {0}) E) → b ≡ a ++ Enters ∷ [] → Declares b c names → Reads c d s → OnOk o (e ≡ d ++ Leaves ∷ [])
    → OnOk o (Reads a e (λ r. s (scoped r (names r.home))))
names-part a b c d e names s o enters h k leaves =
    ok-map o (Reads a e (λ r. s (filled (scoped r []) (names r.home)))) (Reads a e (λ r. s (scoped r (names r.home))))
    (reads-at a e (λ r. s (filled (scoped r []) (names r.home))) (λ r. s (scoped r (names r.home))) (λ r. ap s (sym (filled-scope r (names r.home)))))
    (scope-part a b d e (λ r. s (filled r (names r.home))) (λ r. filled r (names r.home)) o enters
    (walks-then b c d (λ r. []) s (λ r. filled r (names r.home)) (λ r. r) h (reads-walks c d s k)) leaves)

-- ---- functions and handlers

-- the names of parameters
params-read : (a b : List Step) (params : List Typed) → b ≡ a ++ MeetsParams params ∷ [] → Reads a b (λ r. site r (Opens (map (parameter r.home) params)) ∷ [])
params-read a b params grown = reads-step a b (MeetsParams params) (λ r. site r (Opens (map (parameter r.home) params)) ∷ []) (λ q. refl) (λ q. refl) grown

abbrev own_with : Around → FunctionDecl → List Typed → List Site
own_with r f row = site r (Defines f) ∷ (result_sites r f.result ++ (site r (Opens (map (parameter r.home) row)) ∷ (flat_map (typed_sites r) row ++ block_sites r f.body)))

pub in-function : {E : Type 0} (a b c d e g : List Step) (f : FunctionDecl) (row again : List Typed) (o : Result (Unit {0}) E) → row ≡ f.params → again ≡ f.params → b ≡ a ++ Meets (Defines f) ∷ [] → Reads b c (λ r. result_sites r f.result)
    → d ≡ c ++ MeetsParams row ∷ [] → Reads d e (λ r. flat_map (typed_sites r) again) → OnOk o (Reads e g (λ r. block_sites r f.body)) → OnOk o (Reads a g (λ r. own_sites r f))
in-function a b c d e g f row again o same is defines h opens k l =
    ok-map o (Reads e g (λ r. block_sites r f.body)) (Reads a g (λ r. own_sites r f))
    (λ w. subst (λ (z : List Typed). Reads a g (λ r. own_with r f z)) same
    (reads-then a b g (λ r. site r (Defines f) ∷ []) (λ r. result_sites r f.result ++ (site r (Opens (map (parameter r.home) row)) ∷ (flat_map (typed_sites r) row ++ block_sites r f.body))) (reads-meet a b (Defines f) defines)
    (reads-then b c g (λ r. result_sites r f.result) (λ r. site r (Opens (map (parameter r.home) row)) ∷ (flat_map (typed_sites r) row ++ block_sites r f.body)) h
    (reads-then c d g (λ r. site r (Opens (map (parameter r.home) row)) ∷ []) (λ r. flat_map (typed_sites r) row ++ block_sites r f.body) (params-read c d row opens)
    (reads-then d e g (λ r. flat_map (typed_sites r) row) (λ r. block_sites r f.body) (subst (λ (z : List Typed). Reads d e (λ r. flat_map (typed_sites r) z)) (is ∙ sym same) k) w))))) l

pub function-scope : {E : Type 0} (a b c d e : List Step) (f : FunctionDecl) (row : List Typed) (o : Result (Unit {0}) E) → row ≡ f.params → b ≡ a ++ Enters ∷ [] → Declares b c (λ h. map (parameter h) row)
    → Reads c d (λ r. own_sites r f) → OnOk o (e ≡ d ++ Leaves ∷ []) → OnOk o (Reads a e (λ r. in_function (scoped r (map (parameter r.home) f.params)) f))
function-scope a b c d e f row o same enters h k leaves = subst (λ (z : List Typed). OnOk o (Reads a e (λ r. own_sites (scoped r (map (parameter r.home) z)) f))) same
    (names-part a b c d e (λ m. map (parameter m) row) (λ r. own_sites r f) o enters h k leaves)

pub function-part : {E : Type 0} (a b c d : List Step) (f : FunctionDecl) (o : Result (Unit {0}) E) → b ≡ a ++ EntersText f.name (Function f) ∷ [] → Reads b c (λ r. in_function (scoped r (map (parameter r.home) f.params)) f)
    → OnOk o (d ≡ c ++ LeavesText ∷ []) → OnOk o (Reads a d (λ r. function_sites r f))
function-part a b c d f o enters h leaves = text-part a b c d f.name (Function f) (λ r. in_function (scoped r (map (parameter r.home) f.params)) f) o enters h leaves

pub in-handler : {E : Type 0} (a b c d : List Step) (t : Typed) (body : Block) (o : Result (Unit {0}) E) → b ≡ a ++ MeetsParams (t ∷ []) ∷ [] → Reads b c (λ r. typed_sites r t) → OnOk o (Reads c d (λ r. block_sites r body)) → OnOk o (Reads a d (λ r. handled_sites r t body))
in-handler a b c d t body o opens h k = ok-map o (Reads c d (λ r. block_sites r body)) (Reads a d (λ r. handled_sites r t body))
    (λ w. reads-then a b d (λ r. site r (Opens (parameter r.home t ∷ [])) ∷ []) (λ r. typed_sites r t ++ block_sites r body) (params-read a b (t ∷ []) opens)
    (reads-then b c d (λ r. typed_sites r t) (λ r. block_sites r body) h w)) k

-- ---- arguments of nodes

pub given-part : {E : Type 0} (a b c : List Step) (path : Path) (k : ℕ) (x : Arg) (o : Result (Unit {0}) E) → b ≡ a ++ MeetsGiven path k x ∷ [] → OnOk o (Reads b c (λ r. given_sites r x)) → OnOk o (Reads a c (λ r. arg_sites path k r x))
given-part a b c path k x o grown h = then-part a b c (λ r. site r (GivesNode (slice_index_or (takes r path) k TakesAny) x) ∷ []) (λ r. given_sites r x) o
    (reads-step a b (MeetsGiven path k x) (λ r. site r (GivesNode (slice_index_or (takes r path) k TakesAny) x) ∷ []) (λ q. refl) (λ q. refl) grown) h

pub given-value : (r : Around) (a : Expr) → given_sites r (g.Value a) ≡ value_sites r a
given-value r (e.Name q) = refl
given-value r (e.Number p v w) = refl
given-value r (e.Truth p v) = refl
given-value r (e.Call' q h args) = refl
given-value r (e.Construct' b h sizes i args) = refl
given-value r (e.Paren' p h x) = refl
given-value r (e.Field' p h x w) = refl
given-value r (e.Index' p h x i y) = refl
given-value r (e.Unary' p o h x) = refl
given-value r (e.Binary' p o h x i y) = refl
given-value r (e.Choice' p h x i y j z) = refl

pub value-none : (a : List Step) (x : Expr) (q : Path) → alone x ≡ Some q → Reads a a (λ r. value_sites r x)
value-none a x q is = reads-none a a (λ r. value_sites r x) refl (λ r. by r (alone x) is) where
  by : (r : Around) (o : Option Path) → o ≡ Some q → unnamed o (expr_sites r x) ≡ []
  by r None h = cc
  by r (Some p) h = refl

pub value-part : {E : Type 0} (a b : List Step) (x : Expr) (o : Result (Unit {0}) E) → alone x ≡ None → OnOk o (Reads a b (λ r. expr_sites r x)) → OnOk o (Reads a b (λ r. value_sites r x))
value-part a b x o is h = ok-map o (Reads a b (λ r. expr_sites r x)) (Reads a b (λ r. value_sites r x)) (reads-at a b (λ r. expr_sites r x) (λ r. value_sites r x) (λ r. by r (alone x) is)) h where
  by : (r : Around) (o : Option Path) → o ≡ None → unnamed o (expr_sites r x) ≡ expr_sites r x
  by r None h = refl
  by r (Some p) h = cc

given-end : (r : Around) (ts : List Taken) (xs : List Arg) (x : Arg) → given_all r ts (xs ++ x ∷ []) ≡ given_all r ts xs ++ (site r (GivesNode (slice_index_or ts (length xs) TakesAny) x) ∷ given_sites r x)
unfolding given_all
given-end r [] [] x = ap (λ z. site r (GivesNode TakesAny x) ∷ z) (append-nil (given_sites r x))
given-end r (t ∷ ts) [] x = ap (λ z. site r (GivesNode t x) ∷ z) (append-nil (given_sites r x))
given-end r [] (y ∷ xs) x = ap (λ z. site r (GivesNode TakesAny y) ∷ z)
    (ap (λ z. given_sites r y ++ z) (given-end r [] xs x) ∙ sym (append_assoc (given_sites r y) (given_all r [] xs) (site r (GivesNode TakesAny x) ∷ given_sites r x)))
given-end r (t ∷ ts) (y ∷ xs) x = ap (λ z. site r (GivesNode t y) ∷ z)
    (ap (λ z. given_sites r y ++ z) (given-end r ts xs x) ∙ sym (append_assoc (given_sites r y) (given_all r ts xs) (site r (GivesNode (slice_index_or ts (length xs) TakesAny) x) ∷ given_sites r x)))

pub given-start : (path : Path) (xs : List Arg) (a : List Step) → Reads a a (λ r. given_all r (takes r path) (take 0 xs))
unfolding given_all
given-start path xs a = reads-none a a (λ r. given_all r (takes r path) []) refl (λ r. none (takes r path) r) where
  none : (ts : List Taken) (r : Around) → given_all r ts [] ≡ []
  none [] r = refl
  none (t ∷ ts) r = refl

pub given-next : (path : Path) (xs : List Arg) (i : ℕ) (x : Arg) (a b c : List Step) → i < length xs → x ≡ get_or xs i x → Reads a b (λ r. given_all r (takes r path) (take i xs)) → Reads b c (λ r. arg_sites path i r x)
    → Reads a c (λ r. given_all r (takes r path) (take (i + 1) xs))
given-next path xs i x a b c within is h k = reads-at a c (λ r. given_all r (takes r path) (take i xs) ++ arg_sites path i r x) (λ r. given_all r (takes r path) (take (i + 1) xs))
    (λ r. ap (given_all r (takes r path)) (take-more xs i x within is) ∙ given-end r (takes r path) (take i xs) x
    ∙ ap (λ n. given_all r (takes r path) (take i xs) ++ (site r (GivesNode (slice_index_or (takes r path) n TakesAny) x) ∷ given_sites r x)) (length-take-le i xs (omega (arith, within))))
    (reads-then a b c (λ r. given_all r (takes r path) (take i xs)) (λ r. arg_sites path i r x) h k)

pub given-whole : (path : Path) (xs : List Arg) (i : ℕ) (a b : List Step) → i ≡ length xs → Reads a b (λ r. given_all r (takes r path) (take i xs)) → Reads a b (λ r. given_all r (takes r path) xs)
given-whole path xs i a b whole h = subst (λ z. Reads a b (λ r. given_all r (takes r path) z)) (ap (λ n. take n xs) whole ∙ take-length xs) h

-- ---- processors and graphs

pub in-unit-part : {E : Type 0} (a b c d e : List Step) (u : UnitDecl) (ps : List Param) (ks : List Key) (ms : List Member) (o : Result (Unit {0}) E) → ps ≡ u.params → ks ≡ u.keys → ms ≡ u.members → b ≡ a ++ MeetsUnit ∷ []
    → Reads b c (λ r. flat_map (param_sites r) ps) → Reads c d (λ r. keys_sites r ks) → OnOk o (Reads d e (λ r. flat_map (member_sites r) ms)) → OnOk o (Reads a e (λ r. inner_sites r u))
in-unit-part a b c d e u ps ks ms o p q w meets h k l =
    ok-map o (Reads d e (λ r. flat_map (member_sites r) ms)) (Reads a e (λ r. inner_sites r u))
    (λ g. reads-at a e (λ r. whole_sites r r.home.unit ++ (flat_map (param_sites r) ps ++ (keys_sites r ks ++ flat_map (member_sites r) ms))) (λ r. inner_sites r u)
    (λ r. ap (λ z. whole_sites r r.home.unit ++ (flat_map (param_sites r) z ++ (keys_sites r u.keys ++ flat_map (member_sites r) u.members))) (sym p)
    ∙ ap (λ z. whole_sites r r.home.unit ++ (flat_map (param_sites r) ps ++ (keys_sites r z ++ flat_map (member_sites r) u.members))) (sym q)
    ∙ ap (λ z. whole_sites r r.home.unit ++ (flat_map (param_sites r) ps ++ (keys_sites r ks ++ flat_map (member_sites r) z))) (sym w))
    (reads-then a b e (λ r. whole_sites r r.home.unit) (λ r. flat_map (param_sites r) ps ++ (keys_sites r ks ++ flat_map (member_sites r) ms)) (reads-step a b MeetsUnit (λ r. whole_sites r r.home.unit) (λ q. refl) (λ q. refl) meets)
    (reads-then b c e (λ r. flat_map (param_sites r) ps) (λ r. keys_sites r ks ++ flat_map (member_sites r) ms) h
    (reads-then c d e (λ r. keys_sites r ks) (λ r. flat_map (member_sites r) ms) k g)))) l
