-- What the parsers of connections meet.
use Rattle.std.proofs.Common.{◌≡◌, ℕ, suc, ◌≤◌, Bool, true, false, codes, List, [], ◌∷◌, ◌++◌, Option, refl, ap, sym, subst, ◌∙◌, append_assoc, inl, inr, arith}
use Rattle.cm_base.specs.declared.place.Place.{Place}
use Rattle.cm_tree.specs.declared.token.Token.{Token}
use Rattle.cm_tree.specs.declared.token.TokenKind.{TokenKind}
use Rattle.cm_tree.specs.declared.token.TokenKind.TheVariants as k
use Rattle.cm_tree.specs.declared.sign.Sign.TheVariants as s
use Rattle.cm_tree.specs.declared.reserved.Reserved.TheVariants as w
use Rattle.cm_tree.specs.declared.expr.Expr.{Expr}
use Rattle.cm_tree.specs.declared.member.Point.{Point}
use Rattle.cm_tree.specs.declared.member.Link.{Link}
use Rattle.cm_tree.specs.declared.member.Member.{Member}
use Rattle.cm_tree.specs.declared.member.Member.TheVariants as member
use Rattle.cm_tree.specs.StmtHeights.{link_height, member_height}
use Rattle.cm_tree.specs.Lists.{highest, highest-nil, highest-cons}
use Rattle.cm_tree.specs.Spelling.{IsSign, IsReserved}
use Rattle.cm_tree.specs.DeclSpelling.{IsText, SpellsKey, SpellsKeys, IsFlow, IsKind, SpellsEndName, SpellsEnd, SpellsEnds, SpellsFields, SpellsShared, SpellsFunction, SpellsNodeArgs, SpellsBracketed, SpellsFactor, SpellsNode, SpellsDotted, SpellsPoint, SpellsDelay, SpellsLink, SpellsLinks, SpellsItem, SpellsProcessorItem, SpellsGraphItem}
use Rattle.cm_tree.specs.DeclSpelling as d
use Rattle.token_reader.specs.Parsers.{Outcome, and_then, ◌>>=◌, ◌>>◌, look, see, sees, skip, expect, is_sign, is_word, is_other, same_sign}
use Rattle.token_reader.proofs.Inverses.{answer, if_ok, seen}
use Rattle.cm_parse_expr.proofs.Next.{sign_seen}
use Rattle.file_grammar.specs.Words.{here}
use Rattle.file_grammar.specs.Members.{link_of, link_if, link, connection}
use Rattle.file_grammar.proofs.Meets.{Found, Meets, Any}
use Rattle.file_grammar.proofs.Spelled.{Within}
use Rattle.file_grammar.proofs.Targets.{seen_skip, here_is, head_same}
use Rattle.file_grammar.proofs.Shapes.{Signed, signed, Texted, texted, Seq, seq, Of, of, Led, led, Semi, semi, Choice, one_way, other_way, meets_sign, meets_text_word, meets_seq, meets_of, meets_led, meets_semicolon, starts_semi}
use Rattle.file_grammar.proofs.Lows.{every_of, of_every}
use Rattle.file_grammar.proofs.FirstTokens.{First, first_is, first_append}
use Rattle.file_grammar.proofs.FarDecls.{local_link, takes_link}
use Rattle.file_grammar.proofs.MemberParts.{Braces, meets_group}
use Rattle.file_grammar.proofs.MemberNodes.{PointIn, PointEnds, Delaying, meets_point, meets_delay}

abbrev made_link : Place → Bool → Point → Option Expr → Point → Link
made_link p latch a i b = record { place = p; latch = latch; from = a; delay = i; to = b }

abbrev ToBy : ℕ → Place → Bool → Point → Option Expr → Link → List Token → Type 0
ToBy n p latch a i = Seq (PointIn n) (λ b. Semi (made_link p latch a i b))

abbrev DelayRest : ℕ → Place → Bool → Point → Link → List Token → Type 0
DelayRest n p latch a = Seq (Led s.Arrow (Delaying n)) (λ i. ToBy n p latch a i)

abbrev LinkBy : ℕ → Place → Bool → Link → List Token → Type 0
LinkBy n p latch = Seq (PointIn n) (λ a. DelayRest n p latch a)

point_semi : (a : Point) (t : Token) (ts : List Token) → IsSign s.Semicolon t → PointEnds a (t ∷ ts)
unfolding same_sign
point_semi a t ts is = record { no_index = seen (is_sign s.LeftBracket) t ts _ is.kind false refl; no_dot = seen (is_sign s.Dot) t ts _ is.kind false refl }

point_arrow : (a : Point) (t : Token) (ts : List Token) → IsSign s.Arrow t → PointEnds a (t ∷ ts)
unfolding same_sign
point_arrow a t ts is = record { no_index = seen (is_sign s.LeftBracket) t ts _ is.kind false refl; no_dot = seen (is_sign s.Dot) t ts _ is.kind false refl }

arrow_first : {n : ℕ} {p : Place} {latch : Bool} {c : Point} (a : Point) (b : Link) (v r : List Token) → DelayRest n p latch c b v → PointEnds a (v ++ r)
arrow_first a _ _ r (seq _ _ _ back (led _ t u is h) more) = point_arrow a t ((u ++ back) ++ r) is

point_word : {a : Point} {u : List Token} → SpellsPoint a u → (test : TokenKind → Bool) → ((text : List ℕ) → test (k.Word text) ≡ false) → (r : List Token) → sees test (u ++ r) ≡ false
point_word (d.point z i v t index_ others is hi hv) test fails r = seen test t ((index_ ++ others) ++ r) _ is.kind false (fails z.text)

to_word : {n : ℕ} {p : Place} {latch : Bool} {a : Point} {i : Option Expr} (b : Link) (v r : List Token) → ToBy n p latch a i b v → sees (is_sign s.LeftBracket) (v ++ r) ≡ false
to_word _ _ r (seq c _ u back h more) = ap (sees (is_sign s.LeftBracket)) (append_assoc u back r) ∙ point_word h.spelled (is_sign s.LeftBracket) (λ text. refl) (back ++ r)

meets_link_of : (n : ℕ) (p : Place) (latch : Bool) → Meets (link_of n p latch) (LinkBy n p latch) Any Any
unfolding link_of
meets_link_of n p latch = meets_seq (meets_point n)
    (λ a. meets_seq (meets_led s.Arrow (meets_delay n))
    (λ i. meets_seq (meets_point n) (λ b. meets_semicolon (made_link p latch a i b)) (λ b c v r h m. starts_semi (PointEnds b) (made_link p latch a i b) c (point_semi b) v r h))
    (λ i b v r h m. to_word b v r h))
    (λ a b v r h m. arrow_first a b v r h)

-- ---- links

abbrev LatchedBy : ℕ → Place → Link → List Token → Type 0
LatchedBy n p = Seq (Seq (Led s.LeftBracket (Texted (codes "latch"))) (λ (y : Unit {0}). Signed s.RightBracket)) (λ (y : Unit {0}). LinkBy n p true)

meets_latched : (n : ℕ) (p : Place) → Meets (expect (is_sign s.LeftBracket) >> expect (is_word (codes "latch")) >> expect (is_sign s.RightBracket) >> link_of n p true) (LatchedBy n p) Any Any
meets_latched n p = meets_seq (meets_seq (meets_led s.LeftBracket (meets_text_word (codes "latch"))) (λ y. meets_sign s.RightBracket) (λ y b v r h m. tt)) (λ y. meets_link_of n p true) (λ y b v r h m. tt)

latched_same : (n : ℕ) (p : Place) (ts : List Token) → sees (is_sign s.LeftBracket) ts ≡ true
    → (skip >> expect (is_word (codes "latch")) >> expect (is_sign s.RightBracket) >> link_of n p true) ts ≡ (expect (is_sign s.LeftBracket) >> expect (is_word (codes "latch")) >> expect (is_sign s.RightBracket) >> link_of n p true) ts
latched_same n p ts is =
    ap (λ (o : Outcome (Unit {0})). and_then (and_then (and_then o (λ y. expect (is_word (codes "latch")))) (λ y. expect (is_sign s.RightBracket))) (λ y. link_of n p true)) (seen_skip (is_sign s.LeftBracket) ts is)

latched_as : (n : ℕ) (t : Token) (ts r : List Token) (a : Link) (u : List Token) → LatchedBy n t.place a u → t ∷ ts ≡ u ++ r → Within link_height n SpellsLink a u
latched_as n t ts r _ _ (seq _ _ _ _ (seq _ _ _ _ (led _ o _ io (texted _ x ix)) (signed _ v iv)) (seq a _ front _ ha (seq _ _ _ _ (led i arrow middle ia hi) (seq b _ back _ hb (semi q iq))))) parts =
    subst (λ (z : Place). Within link_height n SpellsLink (made_link z true a i b) (o ∷ x ∷ v ∷ (front ++ arrow ∷ (middle ++ (back ++ q ∷ []))))) (ap (λ (z : Token). z.place) (sym (head_same t o ts ((x ∷ v ∷ (front ++ arrow ∷ (middle ++ (back ++ q ∷ [])))) ++ r) parts)))
    (record { spelled = d.latched a b i o x v arrow q front middle back io ix iv ha.spelled ia hi.spelled hb.spelled iq; low = omega (arith, ha.low, hi.low, hb.low) })

point_place : {a : Point} {u : List Token} → SpellsPoint a u → (t : Token) (ts r : List Token) → t ∷ ts ≡ u ++ r → t.place ≡ a.name.place
point_place (d.point z i v x index_ others is hi hv) t ts r parts = ap (λ (q : Token). q.place) (head_same t x ts ((index_ ++ others) ++ r) parts) ∙ sym is.place

plain_as : (n : ℕ) (t : Token) (ts r : List Token) (a : Link) (u : List Token) → LinkBy n t.place false a u → t ∷ ts ≡ u ++ r → Within link_height n SpellsLink a u
plain_as n t ts r _ _ (seq a _ front rest ha (seq _ _ _ _ (led i arrow middle ia hi) (seq b _ back _ hb (semi q iq)))) parts =
    let tail : List Token = arrow ∷ (middle ++ (back ++ q ∷ [])) in
    let same = point_place ha.spelled t ts (tail ++ r) (parts ∙ append_assoc front tail r) in
    subst (λ (z : Place). Within link_height n SpellsLink (made_link z false a i b) (front ++ tail)) (sym same)
    (record { spelled = d.plain a b i arrow q front middle back ha.spelled ia hi.spelled hb.spelled iq; low = omega (arith, ha.low, hi.low, hb.low) })

link_found_at : (n : ℕ) (t : Token) (ts : List Token) (a : Link) (r : List Token) → (see (is_sign s.LeftBracket) >>= link_if n t.place) (t ∷ ts) ≡ answer a r → Found (Within link_height n SpellsLink) Any (t ∷ ts) a r
unfolding see
link_found_at n t ts a r h =
    elim (if_ok (sees (is_sign s.LeftBracket) (t ∷ ts)) _ _ (t ∷ ts) _ h) [
      | inl q ↦
          let f = (meets_latched n t.place).sound (t ∷ ts) a r (sym (latched_same n t.place (t ∷ ts) q.0) ∙ q.1) in
          record { used = f.used; parts = f.parts; spelled = latched_as n t ts r a f.used f.spelled f.parts; follows = tt }
      | inr q ↦
          let f = (meets_link_of n t.place false).sound (t ∷ ts) a r q.1 in
          record { used = f.used; parts = f.parts; spelled = plain_as n t ts r a f.used f.spelled f.parts; follows = tt }
    ]

link_by : (n : ℕ) (t : Token) (ts : List Token) → link n (t ∷ ts) ≡ (see (is_sign s.LeftBracket) >>= link_if n t.place) (t ∷ ts)
unfolding link
link_by n t ts = rw (here_is t ts) refl

link_found : (n : ℕ) (ts : List Token) (a : Link) (r : List Token) → link n ts ≡ answer a r → Found (Within link_height n SpellsLink) Any ts a r
unfolding link here look
link_found n [] a r h = absurd cc
link_found n (t ∷ ts) a r h = link_found_at n t ts a r h

record PointFirst (a : Point) (u : List Token) : Type 0 where
  token : Token
  tokens : List Token
  parts : u ≡ token ∷ tokens
  place : token.place ≡ a.name.place
  no_bracket : (r : List Token) → sees (is_sign s.LeftBracket) (token ∷ r) ≡ false

point_first : {a : Point} {u : List Token} → SpellsPoint a u → PointFirst a u
point_first (d.point z i v t index_ others is hi hv) = record { token = t; tokens = index_ ++ others; parts = refl; place = sym is.place; no_bracket = λ r. seen (is_sign s.LeftBracket) t r _ is.kind false refl }

link_if_plain : (n : ℕ) (p : Place) (ts : List Token) → sees (is_sign s.LeftBracket) ts ≡ false → (see (is_sign s.LeftBracket) >>= link_if n p) ts ≡ link_of n p false ts
unfolding see
link_if_plain n p ts none = rw none refl

link_if_latched : (n : ℕ) (p : Place) (ts : List Token) → sees (is_sign s.LeftBracket) ts ≡ true → (see (is_sign s.LeftBracket) >>= link_if n p) ts ≡ (skip >> expect (is_word (codes "latch")) >> expect (is_sign s.RightBracket) >> link_of n p true) ts
unfolding see
link_if_latched n p ts there_is = rw there_is refl

link_read : (n : ℕ) {a : Link} {u : List Token} → SpellsLink a u → link_height a ≤ n → (r : List Token) → link n (u ++ r) ≡ answer a r
link_read n (d.plain a b i arrow q front middle back ha ia hi hb iq) low r =
    let f = point_first ha in
    let tail : List Token = arrow ∷ (middle ++ (back ++ q ∷ [])) in
    let z : Link = made_link a.name.place false a i b in
    let whole : (front ++ tail) ++ r ≡ f.token ∷ (f.tokens ++ (tail ++ r)) = append_assoc front tail r ∙ ap (λ (l : List Token). l ++ (tail ++ r)) f.parts in
    ap (link n) whole ∙ link_by n f.token (f.tokens ++ (tail ++ r)) ∙ ap (λ (p : Place). (see (is_sign s.LeftBracket) >>= link_if n p) (f.token ∷ (f.tokens ++ (tail ++ r)))) f.place
    ∙ link_if_plain n a.name.place (f.token ∷ (f.tokens ++ (tail ++ r))) (f.no_bracket (f.tokens ++ (tail ++ r))) ∙ ap (link_of n a.name.place false) (sym whole)
    ∙ (meets_link_of n a.name.place false).complete z (front ++ tail) r
    (seq a z front tail (record { spelled = ha; low = omega arith })
    (seq i z (arrow ∷ middle) (back ++ q ∷ []) (led i arrow middle ia (record { spelled = hi; low = omega arith })) (seq b z back (q ∷ []) (record { spelled = hb; low = omega arith }) (semi q iq)))) tt
link_read n (d.latched a b i o x v arrow q front middle back io ix iv ha ia hi hb iq) low r =
    let tail : List Token = front ++ arrow ∷ (middle ++ (back ++ q ∷ [])) in
    let z : Link = made_link o.place true a i b in
    let ts : List Token = o ∷ x ∷ v ∷ (tail ++ r) in
    let there_is = sign_seen s.LeftBracket o (x ∷ v ∷ (tail ++ r)) io in
    link_by n o (x ∷ v ∷ (tail ++ r)) ∙ link_if_latched n o.place ts there_is ∙ latched_same n o.place ts there_is
    ∙ (meets_latched n o.place).complete z (o ∷ x ∷ v ∷ tail) r
    (seq tt z (o ∷ x ∷ v ∷ []) tail (seq tt tt (o ∷ x ∷ []) (v ∷ []) (led tt o (x ∷ []) io (texted tt x ix)) (signed tt v iv))
    (seq a z front (arrow ∷ (middle ++ (back ++ q ∷ []))) (record { spelled = ha; low = omega arith })
    (seq i z (arrow ∷ middle) (back ++ q ∷ []) (led i arrow middle ia (record { spelled = hi; low = omega arith })) (seq b z back (q ∷ []) (record { spelled = hb; low = omega arith }) (semi q iq))))) tt

meets_link : (n : ℕ) → Meets (link n) (Within link_height n SpellsLink) Any Any
meets_link n = record { sound = link_found n; complete = λ a u r h any. link_read n h.spelled h.low r }

point_other : {a : Point} {u : List Token} → SpellsPoint a u → First (is_other s.RightBrace) u
point_other (d.point z i v t index_ others is hi hv) = first_is (is_other s.RightBrace) t (index_ ++ others) _ is.kind refl

link_other : {a : Link} {u : List Token} → SpellsLink a u → First (is_other s.RightBrace) u
unfolding same_sign
link_other (d.plain a b i arrow q front middle back ha ia hi hb iq) = first_append (point_other ha) (arrow ∷ (middle ++ (back ++ q ∷ [])))
link_other (d.latched a b i o x v arrow q front middle back io ix iv ha ia hi hb iq) = first_is (is_other s.RightBrace) o _ _ io.kind refl

link_no_brace : {a : Link} {u : List Token} → SpellsLink a u → (r : List Token) → sees (is_sign s.LeftBrace) (u ++ r) ≡ false
unfolding same_sign
link_no_brace (d.plain a b i arrow q front middle back ha ia hi hb iq) r = ap (sees (is_sign s.LeftBrace)) (append_assoc front (arrow ∷ (middle ++ (back ++ q ∷ []))) r) ∙ point_word ha (is_sign s.LeftBrace) (λ text. refl) _
link_no_brace (d.latched a b i o x v arrow q front middle back io ix iv ha ia hi hb iq) r = seen (is_sign s.LeftBrace) o _ _ io.kind false refl

abbrev pub ConnectionBy : ℕ → Place → Member → List Token → Type 0
ConnectionBy n p = Of (λ all. member.Connection p all) (Choice (Led s.LeftBrace (Braces (Within link_height n SpellsLink))) (Of (λ x. x ∷ []) (Within link_height n SpellsLink)))

pub meets_connection : (n : ℕ) (p : Place) → Meets (connection n p) (ConnectionBy n p) Any Any
unfolding connection
meets_connection n p = meets_of {G = Any} {M = Any} (λ all. member.Connection p all)
    (meets_group (link n) (local_link n) (takes_link n) (meets_link n) (λ x v h. link_other h.spelled) (λ x v r h. link_no_brace h.spelled r)) (λ a r f. tt) (λ a r f. tt)

pub connection_as : (n : ℕ) (t : Token) → IsReserved w.Connection t → (a : Member) (u : List Token) → ConnectionBy n t.place a u → Within member_height (suc n) SpellsGraphItem a (t ∷ u)
connection_as n t is _ _ (of _ _ (one_way _ _ (led _ o _ io (seq all _ inner _ h (of _ _ (signed _ v iv)))))) =
    let rows = every_of link_height n SpellsLink h in
    record { spelled = d.connection all t (o ∷ (inner ++ v ∷ [])) is (d.several all o v inner io rows.spelled iv); low = omega (arith, rows.low) }
connection_as n t is _ _ (of _ _ (other_way _ _ (of x u h))) =
    record { spelled = d.connection (x ∷ []) t u is (d.one x u h.spelled); low = omega (arith, highest-cons link_height x [], highest-nil link_height, h.low) }

pub as_connection : (n : ℕ) (p : Place) {all : List Link} {u : List Token} → SpellsLinks all u → highest link_height all ≤ n → ConnectionBy n p (member.Connection p all) u
as_connection n p (d.one x tokens h) low = of (x ∷ []) tokens (other_way (x ∷ []) tokens (of x tokens (record { spelled = h; low = omega (arith, highest-cons link_height x [], highest-nil link_height) })))
as_connection n p (d.several all o v inner io h iv) low =
    of all (o ∷ (inner ++ v ∷ [])) (one_way all (o ∷ (inner ++ v ∷ [])) (led all o (inner ++ v ∷ []) io (seq all all inner (v ∷ []) (of_every link_height n SpellsLink h low) (of tt (v ∷ []) (signed tt v iv)))))
