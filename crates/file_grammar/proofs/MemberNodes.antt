-- What the parsers of nodes and of the parts of connections meet.
use Rattle.std.proofs.Common.{◌≡◌, ℕ, suc, ◌≤◌, Bool, true, false, List, [], ◌∷◌, ◌++◌, Option, Some, refl, ap, sym, subst, ◌∙◌, append_assoc, arith}
use Rattle.cm_base.specs.declared.place.Place.{Place}
use Rattle.cm_tree.specs.declared.token.Token.{Token}
use Rattle.cm_tree.specs.declared.token.TokenKind.{TokenKind}
use Rattle.cm_tree.specs.declared.token.TokenKind.TheVariants as k
use Rattle.cm_tree.specs.declared.sign.Sign.TheVariants as s
use Rattle.cm_tree.specs.declared.reserved.Reserved.TheVariants as w
use Rattle.cm_tree.specs.declared.path.Path.{Path}
use Rattle.cm_tree.specs.declared.path.Word.{Word}
use Rattle.cm_tree.specs.declared.expr.Expr.{Expr}
use Rattle.cm_tree.specs.declared.type_expr.Arg.{Arg}
use Rattle.cm_tree.specs.declared.member.Node.{Node}
use Rattle.cm_tree.specs.declared.member.Point.{Point}
use Rattle.cm_tree.specs.declared.member.Member.{Member}
use Rattle.cm_tree.specs.declared.member.Member.TheVariants as member
use Rattle.cm_tree.specs.Heights.{height, bracketed as with_brackets}
use Rattle.cm_tree.specs.StmtHeights.{arg_height, node_height, point_height, member_height}
use Rattle.cm_tree.specs.Lists.{highest, highest-nil, highest-cons, Every, Further, Listed, MaybeListed, Optional}
use Rattle.cm_tree.specs.Lists as lists
use Rattle.cm_tree.specs.Spelling.{IsSign, IsReserved, SpellsPath, SpellsExpr, SpellsArg}
use Rattle.cm_tree.specs.StmtSpelling.{SpellsWord, SpellsTyped, SpellsInit, SpellsVar, SpellsAssert, SpellsBlock}
use Rattle.cm_tree.specs.StmtSpelling as g
use Rattle.cm_tree.specs.DeclSpelling.{IsText, SpellsKey, SpellsKeys, IsFlow, IsKind, SpellsEndName, SpellsEnd, SpellsEnds, SpellsFields, SpellsShared, SpellsFunction, SpellsNodeArgs, SpellsBracketed, SpellsFactor, SpellsNode, SpellsDotted, SpellsPoint, SpellsDelay, SpellsLink, SpellsLinks, SpellsItem, SpellsProcessorItem, SpellsGraphItem}
use Rattle.cm_tree.specs.DeclSpelling as d
use Rattle.token_reader.specs.Parsers.{◌>>=◌, ◌>>◌, pure, sees, expect, is_sign, same_sign}
use Rattle.token_reader.specs.Lists.{separated, optional}
use Rattle.token_reader.proofs.Inverses.{seen}
use Rattle.cm_parse_expr.specs.Reading.{colons, path, arg}
use Rattle.cm_parse_expr.proofs.Next.{Closed, closes, sign_seen}
use Rattle.file_grammar.specs.Words.{within}
use Rattle.file_grammar.specs.Members.{args, index, factor, one_node, nodes, dotted, point, delay}
use Rattle.file_grammar.proofs.Meets.{Meets, Any, Not, Is, Ended, meets_pure, meets_optional, meets_separated}
use Rattle.file_grammar.proofs.Spelled.{Within, meets_expr, meets_path, meets_word}
use Rattle.file_grammar.proofs.Targets.{SpellsBracket, meets_bracket}
use Rattle.file_grammar.proofs.Shapes.{Signed, signed, Seq, seq, Of, of, Led, led, Semi, semi, Choice, one_way, other_way, Room, room, meets_sign, meets_seq, meets_of, meets_iff, meets_weaker, meets_led, meets_semicolon, meets_choice, meets_up_to, meets_room, skip_same_then, starts_semi, nothing_there}
use Rattle.file_grammar.proofs.Lows.{listed_of, of_listed}
use Rattle.file_grammar.proofs.FarDecls.{local_one_node}
use Rattle.cm_parse_expr.proofs.Reach.{local_arg}
use Rattle.cm_parse_expr.proofs.Complete.{height_some}
use Rattle.cm_parse_expr.proofs.Types.{ArgEnds, arg_read, arg_sound}

-- ---- values of a node

meets_arg : (n : ℕ) → Meets (arg n) (Within arg_height n SpellsArg) Any (λ a r. ArgEnds r)
meets_arg n = record {
  sound = λ ts a r h. let f = arg_sound n ts a r h in record { used = f.used; parts = f.parts; spelled = record { spelled = f.spelled; low = f.low }; follows = tt };
  complete = λ a u r h ends. arg_read h.spelled n r h.low ends;
}

arg_commas : (x : Arg) (t : Token) (r : List Token) → IsSign s.Comma t → ArgEnds (t ∷ r)
unfolding same_sign
arg_commas x t r is = record { no_values = seen (is_sign s.LeftParenthesis) t r _ is.kind false refl; no_size = seen (is_sign s.LeftBracket) t r _ is.kind false refl; closed = λ z. closes s.Comma refl t r z is }

args_end : (all : List Arg) (t : Token) (r : List Token) → IsSign s.RightParenthesis t → Ended (is_sign s.Comma) (λ (a : Arg) q. ArgEnds q) all (t ∷ r)
unfolding same_sign
args_end all t r is = record { ended = seen (is_sign s.Comma) t r _ is.kind false refl; needs = λ x. record { no_values = seen (is_sign s.LeftParenthesis) t r _ is.kind false refl; no_size = seen (is_sign s.LeftBracket) t r _ is.kind false refl; closed = λ z. closes s.RightParenthesis refl t r z is } }

abbrev no_arg : List Arg
no_arg = []

abbrev NoCall : {A : Type 0} → A → List Token → Type 0
NoCall a r = sees (is_sign s.LeftParenthesis) r ≡ false

no_args : Meets (pure no_arg) (Is []) Any NoCall
no_args = meets_weaker (meets_pure no_arg) (λ a r f. tt) (λ a r m. tt)

abbrev ArgsBy : ℕ → List Arg → List Token → Type 0
ArgsBy n = Seq (Led s.LeftParenthesis (Listed (Within arg_height n SpellsArg))) (λ all. Of (λ (y : Unit {0}). all) (Signed s.RightParenthesis))

args_opens : (n : ℕ) (a : List Arg) (u r : List Token) → ArgsBy n a u → sees (is_sign s.LeftParenthesis) (u ++ r) ≡ true
args_opens n _ _ r (seq _ _ _ _ (led _ o _ io h) more) = sign_seen s.LeftParenthesis o _ io

args_as : (n : ℕ) (a : List Arg) (u : List Token) → Choice (ArgsBy n) (Is []) a u → Within (highest arg_height) n SpellsNodeArgs a u
args_as n _ _ (one_way _ _ (seq all _ _ _ (led _ o inner io h) (of _ _ (signed _ v iv)))) = let low = listed_of arg_height n SpellsArg h in record { spelled = d.some all o v inner io low.spelled iv; low = low.low }
args_as n a u (other_way _ _ h) = subst (λ (l : List Token). Within (highest arg_height) n SpellsNodeArgs a l) (sym h.none) (subst (λ (x : List Arg). Within (highest arg_height) n SpellsNodeArgs x []) (sym h.same) (record { spelled = d.none; low = omega (arith, highest-nil arg_height) }))

as_args : (n : ℕ) {a : List Arg} {u : List Token} → SpellsNodeArgs a u → highest arg_height a ≤ n → Choice (ArgsBy n) (Is []) a u
as_args n d.none low = other_way [] [] (record { same = refl; none = refl })
as_args n (d.some all o v inner io h iv) low = one_way all (o ∷ (inner ++ v ∷ [])) (seq all all (o ∷ inner) (v ∷ []) (led all o inner io (of_listed arg_height n SpellsArg h low)) (of tt (v ∷ []) (signed tt v iv)))

meets_args : (n : ℕ) → Meets (args n) (Within (highest arg_height) n SpellsNodeArgs) Any NoCall
unfolding args
meets_args n = meets_iff
    (meets_choice (is_sign s.LeftParenthesis) (λ ts is. skip_same_then (is_sign s.LeftParenthesis) (separated (is_sign s.Comma) (arg n)) (λ all. expect (is_sign s.RightParenthesis) >> pure all) ts is)
    (meets_up_to (meets_led s.LeftParenthesis (meets_separated (arg n) (local_arg n) (meets_arg n) arg_commas)) args_end)
    no_args (λ a u r h z. args_opens n a u r h) (λ a u r h z. nothing_there s.LeftParenthesis a [] u r h z) (λ a r z. tt) (λ a r z. z))
    (args_as n) (λ a u h. as_args n h.spelled h.low)

-- ---- an index in brackets that may be missing

abbrev second_of : Place × Expr → Expr
second_of q = q.1

meets_index : (n : ℕ) → Meets (index n) (Of second_of (SpellsBracket n)) Any Any
unfolding index
meets_index n = meets_of {G = Any} {M = Any} second_of (meets_bracket n) (λ a r f. tt) (λ a r f. tt)

index_starts : (n : ℕ) (x : Expr) (v r : List Token) → Of second_of (SpellsBracket n) x v → sees (is_sign s.LeftBracket) (v ++ r) ≡ true
index_starts n _ v r (of q _ h) = ap (λ (l : List Token). sees (is_sign s.LeftBracket) (l ++ r)) h.parts ∙ sign_seen s.LeftBracket h.opening _ h.opens

abbrev Counting : ℕ → Option Expr → List Token → Type 0
Counting n = Within (lists.optional with_brackets) n SpellsBracketed

count_as : (n : ℕ) (a : Option Expr) (u : List Token) → Optional (Of second_of (SpellsBracket n)) a u → Counting n a u
count_as n _ _ lists.absent = record { spelled = d.none; low = omega arith }
count_as n _ _ (lists.present _ u (of q _ h)) =
    let some = height_some q.1 in
    record { spelled = subst (SpellsBracketed (Some q.1)) (sym h.parts) (d.some q.1 h.opening h.closing h.inner h.opens h.spelled h.closes); low = omega (arith, h.low) }

as_count : (n : ℕ) {a : Option Expr} {u : List Token} → SpellsBracketed a u → lists.optional with_brackets a ≤ n → Optional (Of second_of (SpellsBracket n)) a u
as_count n d.none low = lists.absent
as_count n (d.some x o v inner io h iv) low =
    lists.present x (o ∷ (inner ++ v ∷ [])) (of (o.place, x) (o ∷ (inner ++ v ∷ []))
    (record { opening = o; closing = v; inner = inner; parts = refl; opens = io; closes = iv; place = refl; spelled = h; low = omega arith }))

abbrev pub NoIndex : {A : Type 0} → A → List Token → Type 0
NoIndex a r = sees (is_sign s.LeftBracket) r ≡ false

meets_count : (n : ℕ) → Meets (optional (is_sign s.LeftBracket) (index n)) (Counting n) Any NoIndex
meets_count n = meets_iff (meets_optional (is_sign s.LeftBracket) NoIndex (meets_index n) (index_starts n) (λ r h. h) (λ x r h. tt)) (count_as n) (λ a u h. as_count n h.spelled h.low)

-- ---- a factor that may be missing

record FactorEnds (a : Option Expr) (r : List Token) : Type 0 where
  no_factor : sees (is_sign s.Star) r ≡ false
  closed : (x : Expr) → Closed x r

factor_starts : (n : ℕ) (x : Expr) (v r : List Token) → Led s.Star (Within height n SpellsExpr) x v → sees (is_sign s.Star) (v ++ r) ≡ true
factor_starts n _ _ r (led _ t u is h) = sign_seen s.Star t (u ++ r) is

abbrev Factoring : ℕ → Option Expr → List Token → Type 0
Factoring n = Within (lists.optional height) n SpellsFactor

factor_as : (n : ℕ) (a : Option Expr) (u : List Token) → Optional (Led s.Star (Within height n SpellsExpr)) a u → Factoring n a u
factor_as n _ _ lists.absent = record { spelled = d.none; low = omega arith }
factor_as n _ _ (lists.present _ _ (led x t u is h)) = record { spelled = d.some x t u is h.spelled; low = h.low }

as_factor : (n : ℕ) {a : Option Expr} {u : List Token} → SpellsFactor a u → lists.optional height a ≤ n → Optional (Led s.Star (Within height n SpellsExpr)) a u
as_factor n d.none low = lists.absent
as_factor n (d.some x t u is h) low = lists.present x (t ∷ u) (led x t u is (record { spelled = h; low = low }))

meets_factor : (n : ℕ) → Meets (optional (is_sign s.Star) (factor n)) (Factoring n) Any FactorEnds
unfolding factor
meets_factor n = meets_iff (meets_optional (is_sign s.Star) FactorEnds (meets_led s.Star (meets_expr n)) (factor_starts n) (λ r h. h.no_factor) (λ x r h. h.closed x)) (factor_as n) (λ a u h. as_factor n h.spelled h.low)

-- ---- nodes

-- what ends a node
record NodeEnds (a : Node) (r : List Token) : Type 0 where
  no_call : sees (is_sign s.LeftParenthesis) r ≡ false
  no_index : sees (is_sign s.LeftBracket) r ≡ false
  no_factor : sees (is_sign s.Star) r ≡ false
  no_colons : sees colons r ≡ false
  closed : (x : Expr) → Closed x r

args_apart : {a : List Arg} {u : List Token} → SpellsNodeArgs a u → (test : TokenKind → Bool) → test (k.Sign s.LeftParenthesis) ≡ false → (r : List Token) → sees test r ≡ false → sees test (u ++ r) ≡ false
args_apart d.none test fails r none = none
args_apart (d.some all o v inner io h iv) test fails r none = seen test o _ _ io.kind false fails

count_apart : {a : Option Expr} {u : List Token} → SpellsBracketed a u → (test : TokenKind → Bool) → test (k.Sign s.LeftBracket) ≡ false → (r : List Token) → sees test r ≡ false → sees test (u ++ r) ≡ false
count_apart d.none test fails r none = none
count_apart (d.some x o v inner io h iv) test fails r none = seen test o _ _ io.kind false fails

factor_apart : {a : Option Expr} {u : List Token} → SpellsFactor a u → (test : TokenKind → Bool) → test (k.Sign s.Star) ≡ false → (r : List Token) → sees test r ≡ false → sees test (u ++ r) ≡ false
factor_apart d.none test fails r none = none
factor_apart (d.some x t u is h) test fails r none = seen test t _ _ is.kind false fails

abbrev made_node : Word → Path → List Arg → Option Expr → Option Expr → Node
made_node z q all count f = record { name = z; path = q; args = all; count = count; factor = f }

abbrev FactorBy : ℕ → Word → Path → List Arg → Option Expr → Node → List Token → Type 0
FactorBy n z q all count = Of (λ f. made_node z q all count f) (Factoring n)

abbrev CountBy : ℕ → Word → Path → List Arg → Node → List Token → Type 0
CountBy n z q all = Seq (Counting n) (λ count. FactorBy n z q all count)

abbrev ArgsRest : ℕ → Word → Path → Node → List Token → Type 0
ArgsRest n z q = Seq (Within (highest arg_height) n SpellsNodeArgs) (λ all. CountBy n z q all)

abbrev NodeBy : ℕ → Node → List Token → Type 0
NodeBy n = Seq SpellsWord (λ z. Seq (Led s.Assign (Room n SpellsPath)) (λ q. ArgsRest n z q))

factor_rest : (n : ℕ) {z : Word} {q : Path} {all : List Arg} {count : Option Expr} (b : Node) (v : List Token) → FactorBy n z q all count b v → (test : TokenKind → Bool) → test (k.Sign s.Star) ≡ false → (r : List Token) → sees test r ≡ false → sees test (v ++ r) ≡ false
factor_rest n _ _ (of f u h) test fails r none = factor_apart h.spelled test fails r none

count_rest : (n : ℕ) {z : Word} {q : Path} {all : List Arg} (b : Node) (v : List Token) → CountBy n z q all b v → (test : TokenKind → Bool) → test (k.Sign s.LeftBracket) ≡ false → test (k.Sign s.Star) ≡ false → (r : List Token) → sees test r ≡ false → sees test (v ++ r) ≡ false
count_rest n _ _ (seq count b u v h more) test fails fails2 r none = ap (sees test) (append_assoc u v r) ∙ count_apart h.spelled test fails (v ++ r) (factor_rest n b v more test fails2 r none)

args_rest : (n : ℕ) {z : Word} {q : Path} (b : Node) (v : List Token) → ArgsRest n z q b v → (test : TokenKind → Bool) → test (k.Sign s.LeftParenthesis) ≡ false → test (k.Sign s.LeftBracket) ≡ false → test (k.Sign s.Star) ≡ false → (r : List Token) → sees test r ≡ false → sees test (v ++ r) ≡ false
args_rest n _ _ (seq all b u v h more) test fails fails2 fails3 r none = ap (sees test) (append_assoc u v r) ∙ args_apart h.spelled test fails (v ++ r) (count_rest n b v more test fails2 fails3 r none)

meets_node_rest : (n : ℕ) (z : Word) (q : Path) → Meets (args n >>= (λ all. optional (is_sign s.LeftBracket) (index n) >>= (λ count. optional (is_sign s.Star) (factor n) >>= (λ f. pure (made_node z q all count f))))) (ArgsRest n z q) Any NodeEnds
unfolding same_sign
meets_node_rest n z q = meets_seq (meets_args n)
    (λ all. meets_seq (meets_count n)
    (λ count. meets_of {G = Any} {M = NodeEnds} (λ f. made_node z q all count f) (meets_factor n) (λ a r f. tt) (λ a r f. record { no_factor = f.no_factor; closed = f.closed }))
    (λ count b v r h m. factor_rest n b v h (is_sign s.LeftBracket) refl r m.no_index))
    (λ all b v r h m. count_rest n b v h (is_sign s.LeftParenthesis) refl refl r m.no_call)

path_room : (n : ℕ) → Meets (within n path) (Room n SpellsPath) (Not colons) (Not colons)
path_room n = meets_room n meets_path

node_as : (n : ℕ) (a : Node) (u : List Token) → NodeBy n a u → Within node_height n SpellsNode a u
node_as n _ _ (seq _ _ _ _ (g.word z t is) (seq _ _ _ _ (led _ equals _ ie (room q front some hq)) (seq all _ inner _ ha (seq count _ index_ _ hc (of f others hf))))) =
    record { spelled = d.node z q all count f t equals front inner index_ others is ie hq ha.spelled hc.spelled hf.spelled; low = omega (arith, ha.low, hc.low, hf.low) }

as_node : (n : ℕ) {a : Node} {u : List Token} → SpellsNode a u → node_height a ≤ n → NodeBy n a u
as_node n (d.node z q all count f t equals front inner index_ others is ie hq ha hc hf) low =
    let b : Node = made_node z q all count f in
    seq z b (t ∷ []) (equals ∷ (front ++ (inner ++ (index_ ++ others)))) (g.word z t is)
    (seq q b (equals ∷ front) (inner ++ (index_ ++ others)) (led q equals front ie (room q front (omega arith) hq))
    (seq all b inner (index_ ++ others) (record { spelled = ha; low = omega arith })
    (seq count b index_ others (record { spelled = hc; low = omega arith }) (of f others (record { spelled = hf; low = omega arith })))))

meets_one_node : (n : ℕ) → Meets (one_node n) (Within node_height n SpellsNode) Any NodeEnds
unfolding one_node same_sign
meets_one_node n = meets_iff
    (meets_seq meets_word (λ z. meets_seq (meets_led s.Assign (path_room n)) (λ q. meets_node_rest n z q) (λ q b v r h m. args_rest n b v h colons refl refl refl r m.no_colons)) (λ z b v r h m. tt))
    (node_as n) (λ a u h. as_node n h.spelled h.low)

node_commas : (x : Node) (t : Token) (r : List Token) → IsSign s.Comma t → NodeEnds x (t ∷ r)
unfolding same_sign
node_commas x t r is = record {
  no_call = seen (is_sign s.LeftParenthesis) t r _ is.kind false refl;
  no_index = seen (is_sign s.LeftBracket) t r _ is.kind false refl;
  no_factor = seen (is_sign s.Star) t r _ is.kind false refl;
  no_colons = seen colons t r _ is.kind false refl;
  closed = λ z. closes s.Comma refl t r z is;
}

nodes_end : (all : List Node) (t : Token) (r : List Token) → IsSign s.Semicolon t → Ended (is_sign s.Comma) NodeEnds all (t ∷ r)
unfolding same_sign
nodes_end all t r is = record {
  ended = seen (is_sign s.Comma) t r _ is.kind false refl;
  needs = λ x. record {
    no_call = seen (is_sign s.LeftParenthesis) t r _ is.kind false refl;
    no_index = seen (is_sign s.LeftBracket) t r _ is.kind false refl;
    no_factor = seen (is_sign s.Star) t r _ is.kind false refl;
    no_colons = seen colons t r _ is.kind false refl;
    closed = λ z. closes s.Semicolon refl t r z is;
  };
}

abbrev pub NodesBy : ℕ → Place → Member → List Token → Type 0
NodesBy n p = Seq (Listed (Within node_height n SpellsNode)) (λ all. Semi (member.Nodes p all))

pub meets_nodes : (n : ℕ) (p : Place) → Meets (nodes n p) (NodesBy n p) Any Any
unfolding nodes
meets_nodes n p = meets_seq (meets_separated (one_node n) (local_one_node n) (meets_one_node n) node_commas) (λ all. meets_semicolon (member.Nodes p all))
    (λ all b v r h m. starts_semi (Ended (is_sign s.Comma) NodeEnds all) (member.Nodes p all) b (nodes_end all) v r h)

-- ---- points

-- neither an index nor a name follows
pub record PointEnds (a : Point) (r : List Token) : Type 0 where
  pub no_index : sees (is_sign s.LeftBracket) r ≡ false
  pub no_dot : sees (is_sign s.Dot) r ≡ false

abbrev pub made_point : Word → Option Expr → Option Word → Point
made_point z i v = record { name = z; index = i; end = v }

dot_starts : (x : Word) (v r : List Token) → Led s.Dot SpellsWord x v → sees (is_sign s.Dot) (v ++ r) ≡ true
dot_starts _ _ r (led _ t u is h) = sign_seen s.Dot t (u ++ r) is

dotted_as : (a : Option Word) (u : List Token) → Optional (Led s.Dot SpellsWord) a u → SpellsDotted a u
dotted_as _ _ lists.absent = d.none
dotted_as _ _ (lists.present _ _ (led _ dot _ id (g.word z t is))) = d.some z dot t id is

as_dotted : (a : Option Word) (u : List Token) → SpellsDotted a u → Optional (Led s.Dot SpellsWord) a u
as_dotted _ _ d.none = lists.absent
as_dotted _ _ (d.some z dot t id is) = lists.present z (dot ∷ t ∷ []) (led z dot (t ∷ []) id (g.word z t is))

meets_dotted : Meets (optional (is_sign s.Dot) dotted) SpellsDotted Any (Not (is_sign s.Dot))
unfolding dotted
meets_dotted = meets_iff (meets_optional (is_sign s.Dot) (Not (is_sign s.Dot)) (meets_led s.Dot meets_word) dot_starts (λ r h. h) (λ x r h. tt)) dotted_as as_dotted

dotted_apart : {z : Word} {i : Option Expr} (b : Point) (v : List Token) → Of (λ j. made_point z i j) SpellsDotted b v → (r : List Token) → sees (is_sign s.LeftBracket) r ≡ false → sees (is_sign s.LeftBracket) (v ++ r) ≡ false
unfolding same_sign
dotted_apart _ _ (of _ _ d.none) r none = none
dotted_apart _ _ (of _ _ (d.some z dot t id is)) r none = seen (is_sign s.LeftBracket) dot (t ∷ r) _ id.kind false refl

abbrev PointBy : ℕ → Point → List Token → Type 0
PointBy n = Seq SpellsWord (λ z. Seq (Counting n) (λ i. Of (λ v. made_point z i v) SpellsDotted))

abbrev pub PointIn : ℕ → Point → List Token → Type 0
PointIn n = Within point_height n SpellsPoint

point_as : (n : ℕ) (a : Point) (u : List Token) → Room n (PointBy n) a u → PointIn n a u
point_as n _ _ (room _ _ some (seq _ _ _ _ (g.word z t is) (seq i _ index_ _ hi (of v others hv)))) = record { spelled = d.point z i v t index_ others is hi.spelled hv; low = omega (arith, hi.low) }

as_point : (n : ℕ) {a : Point} {u : List Token} → SpellsPoint a u → point_height a ≤ n → Room n (PointBy n) a u
as_point n (d.point z i v t index_ others is hi hv) low =
    let b : Point = made_point z i v in
    room b (t ∷ (index_ ++ others)) (omega arith) (seq z b (t ∷ []) (index_ ++ others) (g.word z t is) (seq i b index_ others (record { spelled = hi; low = omega arith }) (of v others hv)))

pub meets_point : (n : ℕ) → Meets (point n) (PointIn n) Any PointEnds
unfolding point
meets_point n = meets_iff
    (meets_room n (meets_seq meets_word
    (λ z. meets_seq (meets_count n) (λ i. meets_of {G = Any} {M = PointEnds} (λ v. made_point z i v) meets_dotted (λ a r f. tt) (λ a r f. f.no_dot)) (λ i b v r h m. dotted_apart b v h r m.no_index))
    (λ z b v r h m. tt)))
    (point_as n) (λ a u h. as_point n h.spelled h.low)

-- ---- delays

abbrev DelayBy : ℕ → Expr → List Token → Type 0
DelayBy n = Seq (Led s.LeftBracket (Within height n SpellsExpr)) (λ x. Of (λ (y : Unit {0}). x) (Led s.RightBracket (Signed s.Arrow)))

delay_closes : (x y : Expr) (b : Expr) (v r : List Token) → Of (λ (z : Unit {0}). y) (Led s.RightBracket (Signed s.Arrow)) b v → Closed x (v ++ r)
delay_closes x y _ _ r (of _ _ (led _ t u is h)) = closes s.RightBracket refl t (u ++ r) x is

meets_delay_one : (n : ℕ) → Meets (delay n) (DelayBy n) Any Any
unfolding delay
meets_delay_one n = meets_seq (meets_led s.LeftBracket (meets_expr n)) (λ x. meets_of {G = Any} {M = Any} (λ (y : Unit {0}). x) (meets_led s.RightBracket (meets_sign s.Arrow)) (λ a r f. tt) (λ a r f. tt)) (λ x b v r h m. delay_closes x x b v r h)

delay_starts : (n : ℕ) (x : Expr) (v r : List Token) → DelayBy n x v → sees (is_sign s.LeftBracket) (v ++ r) ≡ true
delay_starts n _ _ r (seq _ _ _ _ (led _ t u is h) more) = sign_seen s.LeftBracket t _ is

abbrev pub Delaying : ℕ → Option Expr → List Token → Type 0
Delaying n = Within (lists.optional height) n SpellsDelay

delay_as : (n : ℕ) (a : Option Expr) (u : List Token) → Optional (DelayBy n) a u → Delaying n a u
delay_as n _ _ lists.absent = record { spelled = d.none; low = omega arith }
delay_as n _ _ (lists.present _ _ (seq _ _ _ _ (led x o inner io h) (of _ _ (led _ v _ iv (signed _ arrow ia))))) = record { spelled = d.some x o v arrow inner io h.spelled iv ia; low = h.low }

as_delay : (n : ℕ) {a : Option Expr} {u : List Token} → SpellsDelay a u → lists.optional height a ≤ n → Optional (DelayBy n) a u
as_delay n d.none low = lists.absent
as_delay n (d.some x o v arrow inner io h iv ia) low =
    lists.present x (o ∷ (inner ++ v ∷ arrow ∷ [])) (seq x x (o ∷ inner) (v ∷ arrow ∷ []) (led x o inner io (record { spelled = h; low = low })) (of tt (v ∷ arrow ∷ []) (led tt v (arrow ∷ []) iv (signed tt arrow ia))))

pub meets_delay : (n : ℕ) → Meets (optional (is_sign s.LeftBracket) (delay n)) (Delaying n) Any NoIndex
meets_delay n = meets_iff (meets_optional (is_sign s.LeftBracket) NoIndex (meets_delay_one n) (delay_starts n) (λ r h. h) (λ x r h. tt)) (delay_as n) (λ a u h. as_delay n h.spelled h.low)

pub nodes_as : (n : ℕ) (t : Token) → IsReserved w.Node t → (a : Member) (u : List Token) → NodesBy n t.place a u → Within member_height (suc n) SpellsGraphItem a (t ∷ u)
nodes_as n t is _ _ (seq all _ inner _ h (semi v iv)) = let low = listed_of node_height n SpellsNode h in record { spelled = d.nodes all t v inner is low.spelled iv; low = omega (arith, low.low) }

pub as_nodes : (n : ℕ) (p : Place) {all : List Node} {inner : List Token} → Listed SpellsNode all inner → highest node_height all ≤ n → (v : Token) → IsSign s.Semicolon v → NodesBy n p (member.Nodes p all) (inner ++ v ∷ [])
as_nodes n p {all} {inner} h low v iv = seq all (member.Nodes p all) inner (v ∷ []) (of_listed node_height n SpellsNode h low) (semi v iv)
