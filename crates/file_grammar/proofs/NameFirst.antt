-- What begins with a name: a call, the type of a declaration, or what is assigned.
use Rattle.std.proofs.Common.{◌≡◌, ℕ, ◌-◌, ◌≤◌, map, Bool, true, false, List, [], ◌∷◌, ◌++◌, Option, Some, None, refl, ap, sym, subst, ◌∙◌, append_assoc, inl, inr, arith}
use Rattle.cm_base.specs.declared.place.Place.{Place}
use Rattle.cm_tree.specs.declared.token.Token.{Token}
use Rattle.cm_tree.specs.declared.token.TokenKind.{TokenKind}
use Rattle.cm_tree.specs.declared.token.TokenKind.TheVariants as k
use Rattle.cm_tree.specs.declared.sign.Sign.TheVariants as s
use Rattle.cm_tree.specs.declared.path.Path.{Path}
use Rattle.cm_tree.specs.declared.path.Word.{Word}
use Rattle.cm_tree.specs.declared.expr.Expr.{Expr}
use Rattle.cm_tree.specs.declared.type_expr.TypeExpr.TheVariants as y
use Rattle.cm_tree.specs.declared.simple.Step.{Step}
use Rattle.cm_tree.specs.declared.simple.Step.TheVariants as st
use Rattle.cm_tree.specs.declared.simple.Target.{Target}
use Rattle.cm_tree.specs.Heights.{bracketed as with_brackets, sizes_height}
use Rattle.cm_tree.specs.StmtHeights.{type_height, step_height, target_height}
use Rattle.cm_tree.specs.Lists.{highest, highest-nil, highest-cons, Every}
use Rattle.cm_tree.specs.Lists as lists
use Rattle.cm_tree.specs.Spelling.{IsSign, IsWord, SpellsNames, SpellsPath, SpellsExpr, SpellsArgs, SpellsSizes, SpellsType}
use Rattle.cm_tree.specs.Spelling as e
use Rattle.cm_tree.specs.StmtSpelling.{SpellsWord, SpellsStep, SpellsTarget}
use Rattle.cm_tree.specs.StmtSpelling as g
use Rattle.token_reader.specs.Parsers.{◌>>=◌, pure, see, sees, is_sign, same_sign}
use Rattle.token_reader.specs.Lists.{while_sees}
use Rattle.token_reader.proofs.Inverses.{answer, bind_ok, if_ok, given, seen, sees_ok, sign_is}
use Rattle.cm_parse_expr.specs.Reading.{colons, path}
use Rattle.cm_parse_expr.proofs.Complete.{path_read}
use Rattle.cm_parse_expr.proofs.Sound.{path_sound}
use Rattle.file_grammar.specs.declared.begun.Begun.{Begun}
use Rattle.file_grammar.specs.declared.begun.Begun.TheVariants as begun
use Rattle.file_grammar.specs.Words.{is_name, bracket}
use Rattle.file_grammar.specs.Simples.{is_step, index, step_of, target_of, single, target_at, second, after_indices, called, call_or_rest, begun_by_name}
use Rattle.file_grammar.proofs.Far.{local_bracket, takes_bracket, local_step, takes_step}
use Rattle.file_grammar.proofs.Meets.{Found, Meets, Any, while_sound, while_complete}
use Rattle.file_grammar.proofs.Targets.{SpellsBracket, meets_bracket, meets_step, index_of}
use Rattle.file_grammar.proofs.Shapes.{Room, room, Of, of, meets_of, meets_room, meets_within}
use Rattle.file_grammar.proofs.Lows.{every_of, of_every}
use Rattle.file_grammar.proofs.Beginnings.{Args, in_parentheses, meets_args, WithinStep, step_starts}

pub data Starts (n : ℕ) : Begun → List Token → Type 0 where
  typed : (q : Path) (sizes : List Expr) (u : List Token) → SpellsType (y.Named q sizes) u → type_height (y.Named q sizes) ≤ n → Starts n (begun.Type (y.Named q sizes)) u
  targeted : (t : Target) (u : List Token) → SpellsTarget t u → target_height t ≤ n → Starts n (begun.Target t) u
  calling : (q : Path) (xs : List Expr) (front back : List Token) → SpellsPath q front → Args (n - 1) xs back → 2 ≤ n → Starts n (begun.Call q xs) (front ++ back)

-- what follows doesn't continue what is assigned, and isn't a name
pub record TargetEnds (r : List Token) : Type 0 where
  pub no_step : sees is_step r ≡ false
  pub no_name : sees is_name r ≡ false
  pub no_colons : sees colons r ≡ false
  pub no_call : sees (is_sign s.LeftParenthesis) r ≡ false

abbrev pub Follows : Begun → List Token → Type 0
Follows (begun.Type ty) r = sees is_name r ≡ true
Follows (begun.Target t) r = TargetEnds r
Follows (begun.Call q xs) r = Unit {0}

-- ---- sizes and indices

sizes_as : (n : ℕ) → 1 ≤ n → {qs : List (Place × Expr)} {u : List Token} → Every (SpellsBracket n) qs u → SpellsSizes (map second qs) u × (sizes_height (map second qs) ≤ n)
sizes_as n some lists.none = (e.no_sizes, omega (arith, highest-nil with_brackets))
sizes_as n some (lists.more q qs first others one rest) =
    let all = sizes_as n some rest in
    let whole : first ++ others ≡ one.opening ∷ (one.inner ++ one.closing ∷ others) =
    ap (λ (l : List Token). l ++ others) one.parts ∙ ap (λ (l : List Token). one.opening ∷ l) (append_assoc one.inner (one.closing ∷ []) others) in (
      subst (SpellsSizes (q.1 ∷ map second qs)) (sym whole) (e.size q.1 (map second qs) one.opening one.closing one.inner others one.opens one.spelled one.closes all.0),
      omega (arith, highest-cons with_brackets q.1 (map second qs), one.low, all.1),
    )

record SizesFrom (n : ℕ) (xs : List Expr) (u : List Token) : Type 0 where
  all : List (Place × Expr)
  same : map second all ≡ xs
  spelled : Every (SpellsBracket n) all u

as_sizes : (n : ℕ) {xs : List Expr} {u : List Token} → SpellsSizes xs u → sizes_height xs ≤ n → SizesFrom n xs u
as_sizes n e.no_sizes low = record { all = []; same = refl; spelled = lists.none }
as_sizes n (e.size a xs o c inner others opens spelled ends rest) low =
    let f = as_sizes n rest (omega (arith, highest-cons with_brackets a xs)) in
    let one : SpellsBracket n (o.place, a) (o ∷ (inner ++ c ∷ [])) =
    record { opening = o; closing = c; inner = inner; parts = refl; opens = opens; closes = ends; place = refl; spelled = spelled; low = omega (arith, highest-cons with_brackets a xs) } in
    record {
      all = (o.place, a) ∷ f.all;
      same = ap (λ (l : List Expr). a ∷ l) f.same;
      spelled = subst (Every (SpellsBracket n) ((o.place, a) ∷ f.all)) (ap (λ (l : List Token). o ∷ l) (append_assoc inner (c ∷ []) others)) (lists.more (o.place, a) f.all (o ∷ (inner ++ c ∷ [])) others one f.spelled);
    }

-- the indices of what is assigned as its first steps
index_steps : (n : ℕ) → 1 ≤ n → {qs : List (Place × Expr)} {u : List Token} → Every (SpellsBracket n) qs u → Every (WithinStep n) (map index qs) u
index_steps n some lists.none = lists.none
index_steps n some (lists.more q qs first others one rest) = lists.more (index q) (map index qs) first others (record { spelled = index_of n q first one; low = omega (arith, one.low) }) (index_steps n some rest)

every_append : {A : Type 0} {P : A → List Token → Type 0} {xs ys : List A} {u v : List Token} → Every P xs u → Every P ys v → Every P (xs ++ ys) (u ++ v)
every_append lists.none b = b
every_append {P = P} {ys = ys} {v = v} (lists.more x xs first others one rest) b = subst (Every P (x ∷ (xs ++ ys))) (sym (append_assoc first others v)) (lists.more x (xs ++ ys) first (others ++ v) one (every_append rest b))

bracket_starts : (n : ℕ) (q : Place × Expr) (v r : List Token) → SpellsBracket n q v → sees (is_sign s.LeftBracket) (v ++ r) ≡ true
unfolding same_sign
bracket_starts n q v r h = ap (λ (l : List Token). sees (is_sign s.LeftBracket) (l ++ r)) h.parts ∙ seen (is_sign s.LeftBracket) h.opening _ _ h.opens.kind true refl

-- a test that `[` fails fails before brackets where it fails after them
brackets_fail : (n : ℕ) (test : TokenKind → Bool) → test (k.Sign s.LeftBracket) ≡ false → {qs : List (Place × Expr)} {u : List Token} → Every (SpellsBracket n) qs u → (r : List Token) → sees test r ≡ false → sees test (u ++ r) ≡ false
brackets_fail n test fails lists.none r none = none
brackets_fail n test fails (lists.more q qs first others one rest) r none =
    ap (λ (l : List Token). sees test ((l ++ others) ++ r)) one.parts ∙ seen test one.opening _ _ one.opens.kind false fails

-- the steps of what is assigned up to the first name, and the others
record Split (n : ℕ) (steps : List Step) (u : List Token) : Type 0 where
  first : List (Place × Expr)
  others : List Step
  front : List Token
  back : List Token
  steps_are : steps ≡ map index first ++ others
  parts : u ≡ front ++ back
  brackets : Every (SpellsBracket n) first front
  rest : Every (WithinStep n) others back
  no_bracket : (r : List Token) → sees is_step r ≡ false → sees (is_sign s.LeftBracket) (back ++ r) ≡ false

bracket_is_step_by : (r : List Token) (b : Bool) → sees (is_sign s.LeftBracket) r ≡ b → sees is_step r ≡ false → b ≡ false
bracket_is_step_by r true there none =
    let t = sees_ok (is_sign s.LeftBracket) r there in
    absurd (let step : sees is_step r ≡ true = ap (sees is_step) t.2 ∙ seen is_step t.0 t.1 _ (sign_is s.LeftBracket t.0.kind t.3) true refl in cc)
bracket_is_step_by r false there none = refl

bracket_is_step : (r : List Token) → sees is_step r ≡ false → sees (is_sign s.LeftBracket) r ≡ false
bracket_is_step r none = let b = bracket_is_step_by r (sees (is_sign s.LeftBracket) r) refl none in b

split_by : (n : ℕ) {x : Step} {u : List Token} → SpellsStep x u → step_height x ≤ n → {xs : List Step} {v : List Token} → Every (WithinStep n) xs v → Split n xs v → Split n (x ∷ xs) (u ++ v)
unfolding same_sign
split_by n (g.field w dot t opens is) low {xs} {v} every f =
    record {
      first = [];
      others = st.Field w ∷ xs;
      front = [];
      back = dot ∷ t ∷ v;
      steps_are = refl;
      parts = refl;
      brackets = lists.none;
      rest = lists.more (st.Field w) xs (dot ∷ t ∷ []) v (record { spelled = g.field w dot t opens is; low = low }) every;
      no_bracket = λ r none. seen (is_sign s.LeftBracket) dot (t ∷ (v ++ r)) _ opens.kind false refl;
    }
split_by n (g.index a o c inner opens spelled ends) low {xs} {v} every f =
    let one : SpellsBracket n (o.place, a) (o ∷ (inner ++ c ∷ [])) =
    record { opening = o; closing = c; inner = inner; parts = refl; opens = opens; closes = ends; place = refl; spelled = spelled; low = omega arith } in
    record {
      first = (o.place, a) ∷ f.first;
      others = f.others;
      front = (o ∷ (inner ++ c ∷ [])) ++ f.front;
      back = f.back;
      steps_are = ap (λ (l : List Step). st.Index o.place a ∷ l) f.steps_are;
      parts = ap (λ (l : List Token). (o ∷ (inner ++ c ∷ [])) ++ l) f.parts ∙ sym (append_assoc (o ∷ (inner ++ c ∷ [])) f.front f.back);
      brackets = lists.more (o.place, a) f.first (o ∷ (inner ++ c ∷ [])) f.front one f.brackets;
      rest = f.rest;
      no_bracket = f.no_bracket;
    }

split : (n : ℕ) {xs : List Step} {u : List Token} → Every (WithinStep n) xs u → Split n xs u
split n lists.none = record { first = []; others = []; front = []; back = []; steps_are = refl; parts = refl; brackets = lists.none; rest = lists.none; no_bracket = λ r none. bracket_is_step r none }
split n (lists.more x xs u v one rest) = split_by n one.spelled one.low rest (split n rest)

-- a test that `.` and `[` fail fails before steps where it fails after them
steps_fail_by : {x : Step} {v : List Token} → SpellsStep x v → (test : TokenKind → Bool) → test (k.Sign s.LeftBracket) ≡ false → test (k.Sign s.Dot) ≡ false → (r : List Token) → sees test (v ++ r) ≡ false
steps_fail_by (g.field w dot t opens is) test a b r = seen test dot (t ∷ r) _ opens.kind false b
steps_fail_by (g.index x o c inner opens spelled ends) test a b r = seen test o _ _ opens.kind false a

steps_fail : {n : ℕ} {xs : List Step} {u : List Token} → Every (WithinStep n) xs u → (test : TokenKind → Bool) → test (k.Sign s.LeftBracket) ≡ false → test (k.Sign s.Dot) ≡ false → (r : List Token) → sees test r ≡ false → sees test (u ++ r) ≡ false
steps_fail lists.none test a b r none = none
steps_fail (lists.more x xs first others one rest) test a b r none = ap (sees test) (append_assoc first others r) ∙ steps_fail_by one.spelled test a b (others ++ r)

name_of : (kind : TokenKind) → is_name kind ≡ true → (text : List ℕ) × (kind ≡ k.Word text)
name_of (k.Word text) is = (text, refl)
name_of (k.Sign x) is = absurd cc
name_of (k.Reserved x) is = absurd cc
name_of (k.Number v w) is = absurd cc
name_of (k.Text b) is = absurd cc

-- before a name, a test fails that names fail
name_only : (test : TokenKind → Bool) → ((text : List ℕ) → test (k.Word text) ≡ false) → (r : List Token) → sees is_name r ≡ true → sees test r ≡ false
name_only test fails r there =
    let t = sees_ok is_name r there in
    let name = name_of t.0.kind t.3 in
    ap (sees test) t.2 ∙ seen test t.0 t.1 (k.Word name.0) name.1 false (fails name.0)

-- ---- paths of one name

record OneName (q : Path) (text : List ℕ) (u : List Token) : Type 0 where
  token : Token
  parts : u ≡ token ∷ []
  kind : token.kind ≡ k.Word text
  place : q.place ≡ token.place

single_path : {q : Path} {u : List Token} → SpellsPath q u → (text : List ℕ) → single q.names ≡ Some text → OneName q text u
single_path (e.path t n [] _ is e.none) text one = record { token = t; parts = refl; kind = is ∙ ap (λ (l : List ℕ). k.Word l) (let same : n ≡ text = cc in same); place = refl }
single_path (e.path t n (m ∷ ns) others is spelled) text one = absurd cc

-- ---- what is read is spelled

module _ (n : ℕ) (some : 1 ≤ n) where
  after_found : (start : List Token) (q : Path) (u mid : List Token) (sizes : List (Place × Expr)) (v last : List Token) (b : Begun) (r : List Token) → start ≡ u ++ (v ++ last) → SpellsPath q u → Every (SpellsBracket n) sizes v
      → (o : Option (List ℕ)) → single q.names ≡ o → target_at n q.place sizes o last ≡ answer b r → Found (Starts n) Any start b r
  unfolding target_of
  after_found start q u mid sizes v last b r parts spelled every None is h = absurd cc
  after_found start q u mid sizes v last b r parts spelled every (Some text) is h =
      let c = bind_ok (target_of n (record { place = q.place; text = text }) (map index sizes) last) (λ t. pure (begun.Target t)) b r h in
      let d = bind_ok (while_sees is_step (step_of n) (map index sizes) last) (λ all. pure (record { name = record { place = q.place; text = text }; steps = all })) c.0 c.1 c.2 in
      let f = while_sound is_step (step_of n) (local_step n) (takes_step n) (meets_step n some) (λ x w z g. step_starts n x w z g) (λ x z w g i. tt) (map index sizes) last d.0 d.1 d.2 in
      let one = single_path spelled text is in
      let steps = every_of step_height n SpellsStep (subst (λ (l : List Step). Every (WithinStep n) l (v ++ f.2.used)) (sym f.1) (every_append (index_steps n some every) f.2.spelled)) in
      let tokens : List Token = one.token ∷ (v ++ f.2.used) in
      let w : Word = record { place = q.place; text = text } in
      let t : Target = record { name = w; steps = d.0 } in
      let spells : SpellsTarget t tokens = g.target w d.0 one.token (v ++ f.2.used) (record { kind = one.kind; place = one.place }) steps.spelled in
      let whole : start ≡ tokens ++ d.1 =
      parts ∙ ap (λ (l : List Token). u ++ (v ++ l)) f.2.parts ∙ ap (λ (l : List Token). l ++ (v ++ (f.2.used ++ d.1))) one.parts ∙ ap (λ (l : List Token). one.token ∷ l) (sym (append_assoc v f.2.used d.1)) in
      let found : Found (Starts n) Any start (begun.Target t) d.1 = record { used = tokens; parts = whole; spelled = targeted t tokens spells (omega (arith, steps.low)); follows = tt } in
      given (λ z l. Found (Starts n) Any start z l) (begun.Target c.0) b c.1 r c.3 (given (λ z l. Found (Starts n) Any start (begun.Target z) l) t c.0 d.1 c.1 d.3 found)

  rest_found : (start : List Token) (q : Path) (u mid : List Token) (b : Begun) (r : List Token) → start ≡ u ++ mid → SpellsPath q u
      → (while_sees (is_sign s.LeftBracket) (bracket n) [] >>= (λ sizes. after_indices n q sizes)) mid ≡ answer b r → Found (Starts n) Any start b r
  unfolding after_indices see
  rest_found start q u mid b r parts spelled h =
      let c = bind_ok (while_sees (is_sign s.LeftBracket) (bracket n) [] mid) (λ sizes. after_indices n q sizes) b r h in
      let f = while_sound (is_sign s.LeftBracket) (bracket n) (local_bracket n) (takes_bracket n) (meets_bracket n) (bracket_starts n) (λ x z w g i. tt) [] mid c.0 c.1 c.2 in
      let every : Every (SpellsBracket n) c.0 f.2.used = subst (λ (l : List (Place × Expr)). Every (SpellsBracket n) l f.2.used) (sym f.1) f.2.spelled in
      let whole : start ≡ u ++ (f.2.used ++ c.1) = parts ∙ ap (λ (l : List Token). u ++ l) f.2.parts in
      elim (if_ok (sees is_name c.1) _ _ c.1 _ c.3) [
        | inl x ↦
            let all = sizes_as n some every in
            given (λ z l. Found (Starts n) Any start z l) (begun.Type (y.Named q (map second c.0))) b c.1 r x.1 (record {
              used = u ++ f.2.used;
              parts = whole ∙ sym (append_assoc u f.2.used c.1);
              spelled = typed q (map second c.0) (u ++ f.2.used) (e.named q (map second c.0) u f.2.used spelled all.0) (omega (arith, all.1));
              follows = tt;
            })
        | inr x ↦ after_found start q u mid c.0 f.2.used c.1 b r whole spelled every (single q.names) refl x.1
      ]

  meets_called : (q : Path) → Meets (called n q) (Room (n - 1) (Of (λ xs. begun.Call q xs) (Args (n - 1)))) Any Any
  unfolding called
  meets_called q = meets_room (n - 1) (meets_of {G = Any} {M = Any} (λ xs. begun.Call q xs) (meets_args (n - 1)) (λ a r f. tt) (λ a r f. tt))

  call_found : (start : List Token) (q : Path) (u mid v : List Token) (b : Begun) (r : List Token) → start ≡ u ++ (v ++ r) → SpellsPath q u → Room (n - 1) (Of (λ xs. begun.Call q xs) (Args (n - 1))) b v → Found (Starts n) Any start b r
  call_found start q u mid _ _ r parts spelled (room _ v two (of xs _ inner)) =
      record { used = u ++ v; parts = parts ∙ sym (append_assoc u v r); spelled = calling q xs u v spelled inner (omega arith); follows = tt }

  begun_found : (ts : List Token) (b : Begun) (r : List Token) → (path >>= (λ q. see (is_sign s.LeftParenthesis) >>= call_or_rest n q)) ts ≡ answer b r → Found (Starts n) Any ts b r
  unfolding see
  begun_found ts b r h =
      let c = bind_ok (path ts) (λ q. see (is_sign s.LeftParenthesis) >>= call_or_rest n q) b r h in
      let p = path_sound ts c.0 c.1 c.2 in
      elim (if_ok (sees (is_sign s.LeftParenthesis) c.1) _ _ c.1 _ c.3) [
        | inl x ↦ let f = (meets_called c.0).sound c.1 b r x.1 in call_found ts c.0 p.used c.1 f.used b r (p.parts ∙ ap (λ (l : List Token). p.used ++ l) f.parts) p.spelled f.spelled
        | inr x ↦ rest_found ts c.0 p.used c.1 b r p.parts p.spelled x.1
      ]

  -- ---- what is spelled is read

  target_there : (w : Word) (t : Token) {steps : List Step} {u : List Token} → IsWord w t → Split n steps u → (r : List Token) → TargetEnds r
      → (path >>= (λ q. see (is_sign s.LeftParenthesis) >>= call_or_rest n q)) (t ∷ (u ++ r)) ≡ answer (begun.Target (record { name = w; steps = steps })) r
  unfolding see after_indices target_of same_sign
  target_there w t {steps} {u} is f r ends =
      let regroup : u ++ r ≡ f.front ++ (f.back ++ r) = ap (λ (l : List Token). l ++ r) f.parts ∙ append_assoc f.front f.back r in
      let mid : List Token = f.front ++ (f.back ++ r) in
      let q : Path = record { place = t.place; names = w.text ∷ [] } in
      let front_path : SpellsPath q (t ∷ []) = e.path t w.text [] [] is.kind e.none in
      let no_colons : sees colons mid ≡ false = brackets_fail n colons refl f.brackets (f.back ++ r) (steps_fail f.rest colons refl refl r ends.no_colons) in
      let no_call : sees (is_sign s.LeftParenthesis) mid ≡ false = brackets_fail n (is_sign s.LeftParenthesis) refl f.brackets (f.back ++ r) (steps_fail f.rest (is_sign s.LeftParenthesis) refl refl r ends.no_call) in
      let no_name : sees is_name (f.back ++ r) ≡ false = steps_fail f.rest is_name refl refl r ends.no_name in
      let one : path (t ∷ mid) ≡ answer q mid = path_read front_path mid no_colons in
      let two = while_complete (is_sign s.LeftBracket) (bracket n) (local_bracket n) (takes_bracket n) (meets_bracket n) (bracket_starts n) (λ x z w g i. tt) f.brackets [] (f.back ++ r)
      (record { ended = f.no_bracket r ends.no_step; needs = λ x. tt }) in
      let three = while_complete is_step (step_of n) (local_step n) (takes_step n) (meets_step n some) (λ x w z g. step_starts n x w z g) (λ x z w g i. tt) f.rest (map index f.first) r
      (record { ended = ends.no_step; needs = λ x. tt }) in
      rw (regroup, one, no_call, two, no_name, three)
      (ap (λ (p : Place). answer (begun.Target (record { name = record { place = p; text = w.text }; steps = map index f.first ++ f.others })) r) (sym is.place)
      ∙ ap (λ (l : List Step). answer (begun.Target (record { name = w; steps = l })) r) (sym f.steps_are))

  typed_there : (q : Path) (front : List Token) {sizes : List Expr} {u : List Token} → SpellsPath q front → SizesFrom n sizes u → (r : List Token) → sees is_name r ≡ true
      → (path >>= (λ q. see (is_sign s.LeftParenthesis) >>= call_or_rest n q)) ((front ++ u) ++ r) ≡ answer (begun.Type (y.Named q sizes)) r
  unfolding see after_indices same_sign
  typed_there q front {sizes} {u} spelled f r there =
      let regroup : (front ++ u) ++ r ≡ front ++ (u ++ r) = append_assoc front u r in
      let no_colons : sees colons (u ++ r) ≡ false = brackets_fail n colons refl f.spelled r (name_only colons (λ text. refl) r there) in
      let no_call : sees (is_sign s.LeftParenthesis) (u ++ r) ≡ false = brackets_fail n (is_sign s.LeftParenthesis) refl f.spelled r (name_only (is_sign s.LeftParenthesis) (λ text. refl) r there) in
      let one = path_read spelled (u ++ r) no_colons in
      let two = while_complete (is_sign s.LeftBracket) (bracket n) (local_bracket n) (takes_bracket n) (meets_bracket n) (bracket_starts n) (λ x z w g i. tt) f.spelled [] r
      (record { ended = name_only (is_sign s.LeftBracket) (λ text. refl) r there; needs = λ x. tt }) in
      rw (regroup, one, no_call, two, there) (ap (λ (l : List Expr). answer (begun.Type (y.Named q l)) r) f.same)

  called_there : (q : Path) (xs : List Expr) (front back : List Token) → SpellsPath q front → Args (n - 1) xs back → 2 ≤ n → (r : List Token)
      → (path >>= (λ q. see (is_sign s.LeftParenthesis) >>= call_or_rest n q)) ((front ++ back) ++ r) ≡ answer (begun.Call q xs) r
  unfolding see same_sign
  called_there q xs front _ spelled (in_parentheses _ o c inner opens sa ends low) two r =
      let back : List Token = o ∷ (inner ++ c ∷ []) in
      let regroup : (front ++ back) ++ r ≡ front ++ (back ++ r) = append_assoc front back r in
      let no_colons : sees colons (back ++ r) ≡ false = seen colons o _ _ opens.kind false refl in
      let call : sees (is_sign s.LeftParenthesis) (back ++ r) ≡ true = seen (is_sign s.LeftParenthesis) o _ _ opens.kind true refl in
      let one = path_read spelled (back ++ r) no_colons in
      let reads = (meets_called q).complete (begun.Call q xs) back r (room (begun.Call q xs) back (omega arith) (of xs back (in_parentheses xs o c inner opens sa ends low))) tt in
      rw (regroup, one, call, reads) refl

  begun_there : {b : Begun} {u : List Token} → Starts n b u → (r : List Token) → Follows b r → (path >>= (λ q. see (is_sign s.LeftParenthesis) >>= call_or_rest n q)) (u ++ r) ≡ answer b r
  begun_there (typed q sizes _ (e.named _ _ front others sq ss) low) r follows = typed_there q front sq (as_sizes n ss (omega arith)) r follows
  begun_there (targeted _ _ (g.target w steps t others is spelled) low) r follows = target_there w t is (split n (of_every step_height n SpellsStep spelled (omega arith))) r follows
  begun_there (calling q xs front back sq sa two) r follows = called_there q xs front back sq sa two r

starts_some : (n : ℕ) {b : Begun} {u : List Token} → Starts n b u → 1 ≤ n
starts_some n (typed q sizes u spelled low) = omega arith
starts_some n (targeted t u spelled low) = omega arith
starts_some n (calling q xs front back sq sa two) = omega arith

-- what begins with a name
pub meets_begun : (n : ℕ) → Meets (begun_by_name n) (Starts n) Any Follows
unfolding begun_by_name
meets_begun n = meets_within n (λ some. record { sound = begun_found n some; complete = λ b u r h follows. begun_there n some h r follows }) (λ b u h. starts_some n h)
