-- What the rules of a rest say is what is computed.
use Rattle.std.proofs.Common.{◌≡◌, ℕ, zero, suc, List, [], ◌∷◌, true, false, Some, None, refl, ap, ◌∙◌, append_assoc}
use Rattle.cm_tree.specs.declared.path.Word.{Word}
use Rattle.cm_tree.specs.declared.type_expr.TypeExpr.{TypeExpr}
use Rattle.cm_tree.specs.declared.stmt.Stmt.{Stmt}
use Rattle.cm_tree.specs.declared.stmt.Stmt.TheVariants as x
use Rattle.cm_meaning.specs.Scopes.{Around, scoped, find_word}
use Rattle.cm_meaning.specs.BodySites.{after_start}
use Rattle.cm_meaning.specs.Constants.{type_of_expr}
use Rattle.cm_meaning.specs.Stores.{zero_in, with_cell}
use Rattle.cm_meaning.specs.World.{World, Always, Holds, Down, Loop, Todo, Again, Leave}
use Rattle.cm_meaning.specs.Acts.{Given, Gives, Short, Act, Done, done, bind, andthen, after, gives}
use Rattle.cm_meaning.specs.Eval.{Hooks, holds}
use Rattle.cm_meaning.specs.Performs.{put, put_locals, perform, start}
use Rattle.cm_meaning.specs.Resume.{Way, On, Broke, Continued, Returned, Ending, Goes, Pauses, next, round_end, go_on, in_scope, third as third_part, entered, tested, repeat, begun_then, bare, each, of_parts, written, exec, round, resume}
use Rattle.cm_meaning.specs.ExecEquations.{exec-Empty, exec-Local, exec-Simple, exec-Assert, exec-Loop, exec-Times, exec-While, exec-ForType, exec-For, exec-Return, exec-Write}
use Rattle.cm_meaning.specs.Rules.{Resumes, Rounds, in_store, opened, with_body, empty, advance, block, mark, nothing, asserted, locals, locals_out, performed, performed_out, if_true, if_false, if_out, else_true, else_false, else_out, loops, while, counted, counted_out, values, values_out, parts, parts_out, remainder, remainder_out, break, continue, return, answer, answer_out, drop_broke, drop_continued, drop_returned, loop_broke, loop_continued, loop_returned, write, write_out, value_out, begins, none_left, ends, test_out}
use Rattle.cm_meaning.proofs.Steady.{Calm}
use Rattle.cm_meaning.proofs.Cases.{bind_bind, then_rest, one_case, scope_case, block_case, if_case, if_else_case, body_in_front, tested_case, repeat_case, again_case, jump_break, jump_continue, advance_case}

applied : {A : Type 0} (f g : Act A) → f ≡ g → (w : World) (n : ℕ) → f w n ≡ g w n
applied f g e w n = λ i. e i w n

on_gives : {A B : Type 0} (x : Given A) (go : A → Act B) (value : A) (w : World) (n : ℕ) → x ≡ Gives value w n → bind x go ≡ go value w n
on_gives x go value w n e = ap (λ y. bind y go) e

on_short : {A B : Type 0} (x : Given A) (go : A → Act B) (w : World) → x ≡ Short w → bind x go ≡ Short w
on_short x go w e = ap (λ y. bind y go) e

-- a statement that only does something
done_case : (act : Act Done) (rest : List Todo) (h : Hooks) (w v : World) (n m : ℕ) → act w n ≡ Gives done v m → andthen (go_on act) (then_rest rest h) w n ≡ resume rest h On v m
done_case act rest h w v n m e = ap (λ y. bind (bind y (λ _. gives (Goes On))) (then_rest rest h)) e

short_case : (act : Act Done) (rest : List Todo) (h : Hooks) (w v : World) (n : ℕ) → act w n ≡ Short v → andthen (go_on act) (then_rest rest h) w n ≡ Short v
short_case act rest h w v n e = ap (λ y. bind (bind y (λ _. gives (Goes On))) (then_rest rest h)) e

-- a loop whose first body is begun without a test
module _ (r : Around) (ty : TypeExpr) (name : Word) (a : Stmt) (rest : List Todo) (h : Hooks) where
  abbrev here : Loop
  here = each r ty name a

  each_next : (end : Ending) (w : World) (n : ℕ) →
      bind (next (Again here ∷ []) (round_end (repeat here h (round here h))) end w n) (then_rest rest h) ≡ then_rest (Again here ∷ rest) h end w n
  each_next (Goes On) w n = refl
  each_next (Goes Broke) w n = refl
  each_next (Goes Continued) w n = refl
  each_next (Goes (Returned v)) w n = refl
  each_next (Pauses more) w n = ap (λ l. Gives (Pauses l) w n) (append_assoc more (Again here ∷ []) rest)

  each_case : (w : World) (n : ℕ) → bind (begun_then here h (round here h) w (suc n)) (then_rest rest h) ≡ resume (with_body here rest) h On (opened h w) n
  each_case w n =
      bind_bind (round here h w n) (next (Again here ∷ []) (round_end (repeat here h (round here h)))) (then_rest rest h)
      ∙ (λ j. bind (round here h w n) (λ end v m. each_next end v m j))
      ∙ (λ i. scope_case (exec here.body here.inside h) (Again here ∷ rest) h i w n)

mutual
  pub sound : (h : Hooks) (calm : Calm h) {rest : List Todo} {way : Way} {w : World} {n : ℕ} {to : Given Ending} → Resumes h rest way w n to → resume rest h way w n ≡ to
  sound h calm (empty way w n) = refl
  sound h calm (advance p r rest w n) = applied _ _ (advance_case p r rest h) w n
  sound h calm (block p all r rest w n to d) = applied _ _ (block_case p all r rest h) w n ∙ sound h calm d
  sound h calm (mark rest way w n to d) = sound h calm d
  sound h calm (nothing p r rest w n to d) = applied _ _ (one_case (x.Empty p) r rest h _ (exec-Empty p r h)) w n ∙ sound h calm d
  sound h calm (asserted a r rest w n to d) = applied _ _ (one_case (x.Assert a) r rest h _ (exec-Assert a r h)) w n ∙ sound h calm d
  sound h calm (locals a r rest w v n m to e d) =
      applied _ _ (one_case (x.Local a) r rest h _ (exec-Local a r h)) w n ∙ done_case (put_locals a r h) rest h w v n m e ∙ sound h calm d
  sound h calm (locals_out a r rest w v n e) = applied _ _ (one_case (x.Local a) r rest h _ (exec-Local a r h)) w n ∙ short_case (put_locals a r h) rest h w v n e
  sound h calm (performed a r rest w v n m to e d) =
      applied _ _ (one_case (x.Simple a) r rest h _ (exec-Simple a r h)) w n ∙ done_case (perform a r h) rest h w v n m e ∙ sound h calm d
  sound h calm (performed_out a r rest w v n e) = applied _ _ (one_case (x.Simple a) r rest h _ (exec-Simple a r h)) w n ∙ short_case (perform a r h) rest h w v n e
  sound h calm (if_true p c a r rest w v n m to e d) = applied _ _ (if_case p c a r rest h) w n ∙ on_gives (holds c r h w n) _ true v m e ∙ sound h calm d
  sound h calm (if_false p c a r rest w v n m to e d) = applied _ _ (if_case p c a r rest h) w n ∙ on_gives (holds c r h w n) _ false v m e ∙ sound h calm d
  sound h calm (if_out p c a r rest w v n e) = applied _ _ (if_case p c a r rest h) w n ∙ on_short (holds c r h w n) _ v e
  sound h calm (else_true p c a b r rest w v n m to e d) = applied _ _ (if_else_case p c a b r rest h) w n ∙ on_gives (holds c r h w n) _ true v m e ∙ sound h calm d
  sound h calm (else_false p c a b r rest w v n m to e d) = applied _ _ (if_else_case p c a b r rest h) w n ∙ on_gives (holds c r h w n) _ false v m e ∙ sound h calm d
  sound h calm (else_out p c a b r rest w v n e) = applied _ _ (if_else_case p c a b r rest h) w n ∙ on_short (holds c r h w n) _ v e
  sound h calm (loops p a r rest w n to d) =
      applied _ _ (one_case (x.Loop p None a) r rest h _ (exec-Loop p a r h)) w n ∙ applied _ _ (repeat_case (bare r Always a) rest h calm) w n ∙ sound_rounds h calm d
  sound h calm (while p c a r rest w n to d) =
      applied _ _ (one_case (x.While p c a) r rest h _ (exec-While p c a r h)) w n ∙ applied _ _ (repeat_case (bare r (Holds c) a) rest h calm) w n ∙ sound_rounds h calm d
  sound h calm (counted p c a r rest w v n m count to e d) =
      applied _ _ (one_case (x.Loop p (Some c) a) r rest h _ (exec-Times p c a r h)) w n
      ∙ ap (λ y. bind (bind y (λ u. in_scope h (after (put h p u) (repeat (bare r (Down p) a) h (round (bare r (Down p) a) h))))) (then_rest rest h)) e
      ∙ applied _ _ (scope_case (after (put h p count) (repeat (bare r (Down p) a) h (round (bare r (Down p) a) h))) rest h) v m
      ∙ applied _ _ (repeat_case (bare r (Down p) a) (Leave ∷ rest) h calm) (in_store h (with_cell p count) (opened h v)) m
      ∙ sound_rounds h calm d
  sound h calm (counted_out p c a r rest w v n e) =
      applied _ _ (one_case (x.Loop p (Some c) a) r rest h _ (exec-Times p c a r h)) w n
      ∙ ap (λ y. bind (bind y (λ u. in_scope h (after (put h p u) (repeat (bare r (Down p) a) h (round (bare r (Down p) a) h))))) (then_rest rest h)) e
  sound h calm (values p ty name a r rest w n to d) =
      applied _ _ (one_case (x.ForType p ty name a) r rest h _ (exec-ForType p ty name a r h)) w (suc n)
      ∙ applied _ _ (scope_case (after (put h name.place (zero_in (type_of_expr r h.known.look ty))) (begun_then (each r ty name a) h (round (each r ty name a) h))) rest h) w (suc n)
      ∙ each_case r ty name a (Leave ∷ rest) h (in_store h (with_cell name.place (zero_in (type_of_expr r h.known.look ty))) (opened h w)) n
      ∙ sound h calm d
  sound h calm (values_out p ty name a r rest w) =
      applied _ _ (one_case (x.ForType p ty name a) r rest h _ (exec-ForType p ty name a r h)) w zero
  sound h calm (parts p s c third a r rest w v n m to e d) =
      applied _ _ (one_case (x.For p s c third a) r rest h _ (exec-For p s c third a r h)) w n
      ∙ applied _ _ (scope_case (after (start s (scoped r []) h) (repeat (of_parts (after_start (scoped r []) s) c third a) h (round (of_parts (after_start (scoped r []) s) c third a) h))) rest h) w n
      ∙ ap (λ y. bind (bind y (λ _. repeat (of_parts (after_start (scoped r []) s) c third a) h (round (of_parts (after_start (scoped r []) s) c third a) h))) (then_rest (Leave ∷ rest) h)) e
      ∙ applied _ _ (repeat_case (of_parts (after_start (scoped r []) s) c third a) (Leave ∷ rest) h calm) v m
      ∙ sound_rounds h calm d
  sound h calm (parts_out p s c third a r rest w v n e) =
      applied _ _ (one_case (x.For p s c third a) r rest h _ (exec-For p s c third a r h)) w n
      ∙ applied _ _ (scope_case (after (start s (scoped r []) h) (repeat (of_parts (after_start (scoped r []) s) c third a) h (round (of_parts (after_start (scoped r []) s) c third a) h))) rest h) w n
      ∙ ap (λ y. bind (bind y (λ _. repeat (of_parts (after_start (scoped r []) s) c third a) h (round (of_parts (after_start (scoped r []) s) c third a) h))) (then_rest (Leave ∷ rest) h)) e
  sound h calm (remainder loop rest w v n m to e d) =
      applied _ _ (again_case loop rest h calm) w n ∙ on_gives (third_part loop.third loop.around h w n) (λ _. andthen (tested loop.test loop.around h) (tested_case loop rest h)) done v m e ∙ sound_rounds h calm d
  sound h calm (remainder_out loop rest w v n e) =
      applied _ _ (again_case loop rest h calm) w n ∙ on_short (third_part loop.third loop.around h w n) (λ _. andthen (tested loop.test loop.around h) (tested_case loop rest h)) v e
  sound h calm (break p r rest w n to d) = applied _ _ (jump_break p r rest h) w n ∙ sound h calm d
  sound h calm (continue p r rest w n to d) = applied _ _ (jump_continue p r rest h) w n ∙ sound h calm d
  sound h calm (return p r rest w n to d) = applied _ _ (one_case (x.Return p None) r rest h _ (exec-Return p None r h)) w n ∙ sound h calm d
  sound h calm (answer p a r rest w v n m value to e d) =
      applied _ _ (one_case (x.Return p (Some a)) r rest h _ (exec-Return p (Some a) r h)) w n
      ∙ ap (λ y. bind (bind y (λ u. gives (Goes (Returned (Some u))))) (then_rest rest h)) e ∙ sound h calm d
  sound h calm (answer_out p a r rest w v n e) =
      applied _ _ (one_case (x.Return p (Some a)) r rest h _ (exec-Return p (Some a) r h)) w n
      ∙ ap (λ y. bind (bind y (λ u. gives (Goes (Returned (Some u))))) (then_rest rest h)) e
  sound h calm (drop_broke s r rest w n to d) = sound h calm d
  sound h calm (drop_continued s r rest w n to d) = sound h calm d
  sound h calm (drop_returned s r rest v w n to d) = sound h calm d
  sound h calm (loop_broke loop rest w n to d) = sound h calm d
  sound h calm (loop_continued loop rest w n to d) = sound h calm d
  sound h calm (loop_returned loop rest v w n to d) = sound h calm d
  sound h calm (write name a r rest w v u n m k value to e f d) =
      applied _ _ (one_case (x.Write name a) r rest h _ (exec-Write name a r h)) w n
      ∙ ap (λ y. bind (bind y (λ z. go_on (written (find_word r name) z h))) (then_rest rest h)) e
      ∙ done_case (written (find_word r name) value h) rest h v u m k f ∙ sound h calm d
  sound h calm (write_out name a r rest w v u n m value e f) =
      applied _ _ (one_case (x.Write name a) r rest h _ (exec-Write name a r h)) w n
      ∙ ap (λ y. bind (bind y (λ z. go_on (written (find_word r name) z h))) (then_rest rest h)) e
      ∙ short_case (written (find_word r name) value h) rest h v u m f
  sound h calm (value_out name a r rest w v n e) =
      applied _ _ (one_case (x.Write name a) r rest h _ (exec-Write name a r h)) w n
      ∙ ap (λ y. bind (bind y (λ z. go_on (written (find_word r name) z h))) (then_rest rest h)) e

  pub sound_rounds : (h : Hooks) (calm : Calm h) {loop : Loop} {rest : List Todo} {w : World} {n : ℕ} {to : Given Ending} → Rounds h loop rest w n to
      → andthen (tested loop.test loop.around h) (tested_case loop rest h) w n ≡ to
  sound_rounds h calm (begins loop rest w v u n m k to e f d) =
      on_gives (tested loop.test loop.around h w n) (tested_case loop rest h) true v (suc m) e
      ∙ on_gives (entered loop.test h v m) (λ _. body_in_front loop rest h) done u k f ∙ sound h calm d
  sound_rounds h calm (none_left loop rest w v n e) = on_gives (tested loop.test loop.around h w n) (tested_case loop rest h) true v zero e
  sound_rounds h calm (ends loop rest w v n m to e d) = on_gives (tested loop.test loop.around h w n) (tested_case loop rest h) false v m e ∙ sound h calm d
  sound_rounds h calm (test_out loop rest w v n e) = on_short (tested loop.test loop.around h w n) (tested_case loop rest h) v e
