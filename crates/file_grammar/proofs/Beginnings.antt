-- What the parsers of what is assigned, and of what begins with a name, meet.
use Rattle.std.proofs.Common.{◌≡◌, ℕ, ◌≤◌, true, false, List, [], ◌∷◌, ◌++◌, refl, ap, sym, ◌∙◌, append_assoc, arith}
use Rattle.cm_tree.specs.declared.token.Token.{Token}
use Rattle.cm_tree.specs.declared.sign.Sign.TheVariants as s
use Rattle.cm_tree.specs.declared.expr.Expr.{Expr}
use Rattle.cm_tree.specs.declared.simple.Step.{Step}
use Rattle.cm_tree.specs.declared.simple.Target.{Target}
use Rattle.cm_tree.specs.Heights.{tallest}
use Rattle.cm_tree.specs.StmtHeights.{step_height, target_height}
use Rattle.cm_tree.specs.Lists.{Every}
use Rattle.cm_tree.specs.Spelling.{IsSign, SpellsArgs}
use Rattle.cm_tree.specs.StmtSpelling.{SpellsWord, SpellsStep, SpellsTarget}
use Rattle.cm_tree.specs.StmtSpelling as g
use Rattle.token_reader.specs.Parsers.{◌>>=◌, sees}
use Rattle.token_reader.specs.Lists.{while_sees}
use Rattle.token_reader.proofs.Inverses.{answer, seen}
use Rattle.cm_parse_expr.proofs.Complete.{read_args}
use Rattle.cm_parse_expr.proofs.Sound.{expr_sound, binary_sound, args_sound}
use Rattle.file_grammar.specs.Words.{word, arguments}
use Rattle.file_grammar.specs.Simples.{is_step, step_of, target_of, target}
use Rattle.file_grammar.proofs.Far.{local_step, takes_step}
use Rattle.file_grammar.proofs.Meets.{Found, Meets, Any, Not, meets_while}
use Rattle.file_grammar.proofs.Spelled.{Within, meets_word}
use Rattle.file_grammar.proofs.Targets.{meets_step}
use Rattle.file_grammar.proofs.Shapes.{Seq, seq, Of, of, meets_seq, meets_of, meets_iff, meets_weaker, meets_within}
use Rattle.file_grammar.proofs.Lows.{every_of, of_every}

-- ---- arguments

pub data Args (n : ℕ) : List Expr → List Token → Type 0 where
  in_parentheses : (xs : List Expr) (o c : Token) (inner : List Token)
      → IsSign s.LeftParenthesis o → SpellsArgs xs inner → IsSign s.RightParenthesis c → tallest xs ≤ n → Args n xs (o ∷ (inner ++ c ∷ []))

args_found : (n : ℕ) (ts : List Token) (xs : List Expr) (r : List Token) → arguments n ts ≡ answer xs r → Found (Args n) Any ts xs r
args_found n ts xs r h =
    let f = args_sound n (expr_sound n) (binary_sound n) ts xs r h in
    record {
      used = f.opening ∷ (f.inner ++ f.closing ∷ []);
      parts = f.parts ∙ ap (λ (l : List Token). f.opening ∷ l) (sym (append_assoc f.inner (f.closing ∷ []) r));
      spelled = in_parentheses xs f.opening f.closing f.inner f.opens f.spelled f.closes f.low;
      follows = tt;
    }

args_there : (n : ℕ) (xs : List Expr) (u r : List Token) → Args n xs u → arguments n (u ++ r) ≡ answer xs r
args_there n _ _ r (in_parentheses xs o c inner opens spelled ends low) =
    ap (λ (l : List Token). arguments n (o ∷ l)) (append_assoc inner (c ∷ []) r) ∙ (read_args spelled).read n o c r low opens ends

pub meets_args : (n : ℕ) → Meets (arguments n) (Args n) Any Any
meets_args n = record { sound = args_found n; complete = λ xs u r h any. args_there n xs u r h }

-- ---- what is assigned

step_begins : {x : Step} {v : List Token} → SpellsStep x v → (r : List Token) → sees is_step (v ++ r) ≡ true
step_begins (g.field w dot t opens is) r = seen is_step dot (t ∷ r) _ opens.kind true refl
step_begins (g.index a o c inner opens spelled ends) r = seen is_step o ((inner ++ c ∷ []) ++ r) _ opens.kind true refl

abbrev pub WithinStep : ℕ → Step → List Token → Type 0
WithinStep n = Within step_height n SpellsStep

pub step_starts : (n : ℕ) (x : Step) (v r : List Token) → WithinStep n x v → sees is_step (v ++ r) ≡ true
step_starts n x v r h = step_begins h.spelled r

target_as : (n : ℕ) (a : Target) (u : List Token) → Seq SpellsWord (λ w. Of (λ all. record { name = w; steps = all }) (Every (WithinStep n))) a u → 1 ≤ n → Within target_height n SpellsTarget a u
target_as n _ _ (seq _ _ _ _ (g.word w t is) (of all others h)) some =
    let x = every_of step_height n SpellsStep h in
    record { spelled = g.target w all t others is x.spelled; low = omega (arith, x.low) }

as_target : (n : ℕ) (a : Target) (u : List Token) → SpellsTarget a u → target_height a ≤ n → Seq SpellsWord (λ w. Of (λ all. record { name = w; steps = all }) (Every (WithinStep n))) a u
as_target n _ _ (g.target w all t others is spelled) low =
    seq w _ (t ∷ []) others (g.word w t is) (of all others (of_every step_height n SpellsStep spelled (omega arith)))

target_some : (n : ℕ) (a : Target) (u : List Token) → Within target_height n SpellsTarget a u → 1 ≤ n
target_some n a u h = omega (arith, h.low)

module _ (n : ℕ) (some : 1 ≤ n) where
  abbrev NoStep : {A : Type 0} → A → List Token → Type 0
  NoStep a r = sees is_step r ≡ false

  meets_steps : Meets (while_sees is_step (step_of n) []) (Every (WithinStep n)) NoStep NoStep
  meets_steps = meets_weaker (meets_while is_step (step_of n) (local_step n) (takes_step n) (meets_step n some) (λ x v r h. step_starts n x v r h) (λ x y v r h. tt)) (λ a r f. f) (λ a r f. record { ended = f; needs = λ x. tt })

  meets_target_some : Meets (word >>= (λ w. target_of n w [])) (Within target_height n SpellsTarget) Any NoStep
  unfolding target_of
  meets_target_some = meets_iff (meets_seq meets_word (λ w. meets_of {G = Any} {M = NoStep} (λ all. record { name = w; steps = all }) meets_steps (λ a r f. tt) (λ a r f. f)) (λ x b v r h g. tt)) (λ a u h. target_as n a u h some) (λ a u h. as_target n a u h.spelled h.low)

pub meets_target : (n : ℕ) → Meets (target n) (Within target_height n SpellsTarget) Any (Not is_step)
unfolding target
meets_target n = meets_within n (λ some. meets_target_some n some) (target_some n)
