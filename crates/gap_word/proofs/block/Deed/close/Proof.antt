-- The places become room again, whatever they hold, and the room goes back under the right to free it.
use Rattle.std.proofs.Common.{◌≡◌, ℕ, Bool, List, [], ◌∷◌, ◌++◌, refl, sym, subst, ◌∙◌}
use mir.Syntax.{Fn, ty_array, place}
use mir.Val.{Val}
use mir.MapTy.{inst_fn}
use base.Logic.{SProp, emp}
use base.Fml.{ftrue, froom, flft}
use prog.Wp.{Env, WpFn}
use types.Kit.{‵, raw, ◌⊛◌, given, later, prop, settles, at_ret, ◌$◌, ◌∵◌, !, qed, by, move, keep, drop, use0, use1, use2, split, split3, join, learn, rewrite, regoal, fsplit, fsplit3, fjoin, fpick, fpack, await}
use types.Part.{whole, sub, agg}
use types.Run.{stop, fld, of_opd, no_more, and_then, first, blocks, exec, returns, enter}
use types.ByLocal.{alloc_all, pass_all, free_all, look_at, get, get_in, sets, lands_last, env}
use contract.BorrowLft.{◌⊑◌}
use contract.Monad.{fact, fact_i}
use contract.Running.{tables}
use denote.Exit.{no}
use denote.Param.{param}
use denote.RattleType.{RattleType, owns}
use denote.RawPtr.{Ptr, block_ptr}
use denote.Signature.{plain, types_at}
use denote.Steps.{nothing, heard}
use denote.Triple.Call.{calls_at_last}
use denote.Triple.Walked.{Stays, stay_dropped, walk_of, Goes-dropped}
use Rattle.core.specs.Allocator.{array_of}
use Rattle.core.specs.Mem.Slots.{slots_items, slots_filled, slots_ptr, slots_len, slots_counts}
use Rattle.core.proofs.alloc.Calls.{Al, token}
use Rattle.core.proofs.atomic.Steps.{fm}
use Rattle.core.proofs.slots.Bodies.{after}
use Rattle.core.proofs.slots.Opens.{row_val}
use Rattle.core.proofs.slots.Runs.{to_space}
use Rattle.core.proofs.slots.Slots.into_raw_parts.Met as callee
use Rattle.std.proofs.raw_atomic.Walks.{proved_at, leaves}
use Rattle.std_alloc.proofs.VecSteps.El.{El, args, elτ}
use Rattle.std_alloc.proofs.vec.Blocks.{el, all}
use Rattle.std_alloc.proofs.vec.Spares.{Row, Row-seen, Into, at_into, Into-goes, Into-gives}
use Rattle.gap_word.specs.Block.{Fits}
use Rattle.gap_word.specs.contracts.block.Block as block
use Rattle.gap_word.specs.contracts.block.Deed as deed
use Rattle.gap_word.specs.contracts.block.Deed.close.{ended, clauses}
use Rattle.gap_word.specs.contracts.block.Deed.close.Key.{name as #self}
use Rattle.gap_word.proofs.Fields.{pointing, fields_at, pointing_told, pointing_made}
use Rattle.gap_word.proofs.Walks.{then_runs, out_of_block}
use Rattle.gap_word.proofs.block.Deed.close.Statement.{statement}
use Rattle.gap_word.proofs.block.Deed.close.Code as code

pub close_spec : {M : Type 1} → statement M
close_spec 𝓤 𝓛 𝓜 𝓡 wired X U L LU g d dd met _ =
    let H = 𝓛.H in
    let 𝓣 = tables 𝓤 H 𝓜 𝓡 𝓡.env in
    let Z : Al = record { row = U; laws = LU; g = g; d = d; drops = dd } in
    let E : El = record { row = X; laws = L; al = Z } in
    let R : RattleType = param 0 X in
    let fn : Fn = inst_fn (args E) code.function in
    let Room : RattleType = block.the_row R (param 1 U) g in
    let Right = plain (λ _. deed.the_row R (param 1 U) g) in
    let Lent = plain (λ _. Row E) in
    let En = ended X U g d dd in
    let c = clauses X U g d dd 𝓛 𝓜.mem 𝓡.returns in
    let stays : Stays En.signature.params En.kept = (stay_dropped Right no, (stay_dropped Lent no, tt)) in
    proved_at 𝓛 En stays c 𝓜 𝓡
    (Goes-dropped 𝓛 2 Right no (λ κs x f. refl), (Goes-dropped 𝓛 2 Lent no (λ κs x f. refl), tt))
    (#self (args E)) fn (code.unfolded 𝓤 H 𝓜 𝓡 wired (X, (U, tt)) d dd) (λ z are.
    let Post : Val → SProp 𝓤 = (walk_of 𝓛 En stays c).post z in
    let κ = z.0.0.0 in
    let q = z.0.1.0 in
    let a = z.0.3 in
    let vss = z.0.4 in
    let x = a.0 in
    let r = a.1.0 in
    let n : ℕ = slots_len r in
    let xs : List X.Denot = slots_items r in
    let fs : List Bool = slots_filled r in
    let Asked : Type 0 = (x.ptr ≡ slots_ptr r) × (x.len ≡ n) in
    qed 𝓛 (((‵ (flft κ q) ⊛ ‵ (flft z.0.0.1.0 z.0.1.1.0) ⊛ ‵ ftrue)
    ⊛ ‵ (owns (types_at En.signature.params z.0.0) a vss))
    ∷ (raw (fact 𝓤 (κ ⊑ X.lives)) ⊛ raw (fact 𝓤 (z.0.0.1.0 ⊑ U.lives)) ⊛ raw (fact 𝓤 Asked)) ∷ []) ∵
    move ! (1 ∷ []) $ split3 ! $ heard ! (κ ⊑ X.lives) (λ lives. drop ! $ heard ! Asked (λ asked.
    -- [the deed; the places; the tokens of both lifetimes]
    split ! $ split3 ! $ move ! (3 ∷ []) $ fsplit3 ! $ fsplit ! $ drop ! $
    fsplit ! $ fpick ! (λ within. drop ! $ move ! (1 ∷ []) $
    Row-seen E ! r vss.1.0 (λ b o at held short.
    let p : Ptr = block_ptr b o in
    let here : x.ptr ≡ p = asked.0 ∙ at in
    let told = pointing_told x.ptr vss.0 are.0.0 ∙ (λ i. pointing (here i) ∷ []) in
    let fits : Fits R n = subst (Fits R) asked.1 within in
    rewrite ! 1 (λ (u : ℕ × Ptr). ‵ (token Z x.heap (array_of R u.0) u.1)) (λ i. (asked.1 i, here i)) refl $
    keep ! (0 ∷ 3 ∷ 1 ∷ 4 ∷ []) $
    regoal ! (λ (us : List Val). prop (WpFn 𝓤 H 𝓣.C 𝓣.Λ fn us Post)) (λ i. told i ++ (held i ++ [])) refl $
    enter ! 𝓣.C 𝓣.Λ fn (pointing p ∷ row_val b o n ∷ []) Post $
    alloc_all ! (λ l. pass_all ! refl
    ((tt, (tt, (tt, tt))), ((tt, (tt, (record { fits = short }, tt))), tt)) $
    let Ev : Env 𝓤 H = env fn.locals l in
    let y = at_into E 𝓛 𝓜.mem 𝓡.returns κ q r b o in
    -- [the places; T's token; the right; A's token]
    sets ! (of_opd ! (get_in ! (fld ! refl (stop !)) (sub ! 1 refl (whole !)))) refl (tt, tt) $
    first ! $ blocks ! $ sets ! (of_opd ! (get ! refl)) refl (tt, (tt, (record { fits = short }, tt))) $
    use2 𝓛 (raw ((Into E 𝓛 𝓜.mem 𝓡.returns).pre y)) (Into-goes E 𝓛 𝓜.mem 𝓡.returns κ q r b o lives) $
    calls_at_last ! (fm 𝓛 𝓜 𝓡) (Into E 𝓛 𝓜.mem 𝓡.returns)
    (callee.met 𝓤 𝓛 𝓜 𝓡 (code.calls-core::slots::Slots::into_raw_parts 𝓡.env wired) X L) y
    (and_then ! (get ! refl) (no_more !)) (λ v.
    use1 𝓛 (later (given (v ≡ row_val b o n) (‵ (all E b o xs fs) ⊛ ‵ (flft κ q))))
    (Into-gives E 𝓛 𝓜.mem 𝓡.returns κ q r b o v at) $ await ! tt $ learn ! (λ is. split ! $
    regoal ! (λ (u : Val). settles Ev (place 7 []) u
    (out_of_block 𝓛 (then_runs 𝓛 𝓣.C 𝓣.Λ Ev (after 2 fn.body) (at_ret Ev Post))))
    is refl $ lands_last ! refl (tt, (tt, (record { fits = short }, tt))) $
    exec ! 𝓣.C 𝓣.Λ Ev (after 2 fn.body) (at_ret Ev Post) $
    sets ! (of_opd ! (get ! refl)) refl (tt, (tt, (record { fits = short }, tt))) $
    sets ! (of_opd ! (get_in ! (fld ! refl (stop !)) (sub ! 0 refl (whole !)))) refl (tt, tt) $
    sets ! (of_opd ! (get_in ! (fld ! refl (stop !)) (sub ! 1 refl (whole !)))) refl
    (tt, record { fits = short }) $
    sets ! (agg ! (and_then ! (get ! refl) (and_then ! (get ! refl) (no_more !)))) refl (tt, (tt, (tt, tt))) $
    returns ! (look_at ! 0 refl) $ free_all ! refl $
    -- [the places; T's token; the right; A's token]
    let new : Room.Denot = record { ptr = p; by = record {}; len = n; heap = x.heap } in
    let Told : Type 0 = (n ≡ n) × (x.heap ≡ x.heap) in
    use1 𝓛 (‵ (froom (ty_array (elτ E) n) b o))
    (to_space (el E) 𝓛 b o n xs (sym (slots_counts r).0) fs (sym (slots_counts r).1)) $
    use1 𝓛 (‵ (froom (array_of R n) b o)) (𝓛.laws.room-raw (ty_array (elτ E) n) b o) $
    move ! (0 ∷ 2 ∷ []) $ fjoin ! $ nothing ! $ fpack ! (Fits R n) (λ _. ftrue) fits $ fjoin ! $
    use0 𝓛 (‵ (fields_at p (pointing p ∷ []))) (pointing_made 𝓛 p) $ fjoin ! $
    use0 𝓛 (raw (fact 𝓤 Told)) (fact_i 𝓤 Told (emp 𝓤) (refl, refl)) $
    nothing ! $ nothing ! $ fjoin ! $ nothing ! $ fjoin ! $
    nothing ! $ move ! (5 ∷ 0 ∷ []) $ join ! $ move ! (4 ∷ 0 ∷ []) $ join ! $
    move ! (0 ∷ 1 ∷ 3 ∷ 2 ∷ []) $
    by ! (leaves 𝓛 En stays c z (pointing p) new (tt, (tt, tt)) (tt, (tt, tt)))))))))))
