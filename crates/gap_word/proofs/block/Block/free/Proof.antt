-- The block's room goes back to the allocator that it came from.
use Rattle.std.proofs.Common.{◌≡◌, ℕ, ◌*◌, ◌^◌, ◌<◌, T, List, [], ◌∷◌, ◌++◌, sym, refl, ap, subst, ◌∙◌, arith, w64}
use mir.Syntax.{Ty, Fn, ty_unit}
use mir.Val.{Val, vunit, vint, vptr, has_ty, WT}
use mir.MapTy.{inst_fn}
use base.Logic.{SProp, never, fst∗}
use base.Fml.{Fml, ftrue, fsep, flft, Incl-trans}
use prog.Memory.{align, capped}
use prog.Capped.{capped_fits}
use prog.Wp.{Env, WpFn}
use types.Logic.{sem}
use types.Kit.{‵, raw, ◌⊛◌, given, later, prop, at_ret, ◌$◌, ◌∵◌, !, qed, by, move, keep, drop, use1, use3, split, split3, join, learn, rewrite, regoal, fsplit, fsplit3, fjoin, fjoin3, fpick, feq_i, await}
use types.Part.{whole, sub}
use types.Run.{stop, fld, unit_lit, size_word, align_word, no_more, and_then, of_opd, bin, first, blocks, exec, returns, enter}
use types.ByLocal.{alloc_all, pass_all, free_all, look_at, get, get_in, is, sets, lands_last, env}
use contract.BorrowLft.{◌⊑◌}
use contract.Monad.{fact}
use contract.Running.{tables}
use denote.Exit.{yes, no}
use denote.Builtin.{RefOf, usize}
use denote.Param.{param}
use denote.RattleType.{RattleType, owns}
use denote.RawPtr.{Ptr, null_ptr, block_ptr, room_for, in_a_block}
use denote.Signature.{plain, types_at}
use denote.Steps.{nothing, heard}
use denote.Triple.Call.{calls_at_last}
use denote.Triple.Walked.{Stays, stay_dropped, walk_of, Goes-dropped}
use Rattle.core.proofs.alloc.Calls.{Al, token, Gives, at_gives, Gives-goes, Gives-Gives}
use Rattle.core.proofs.atomic.Steps.{fm}
use Rattle.core.proofs.mem.Param.{El, elτ}
use Rattle.core.proofs.slots.Bodies.{after}
use Rattle.core.proofs.slots.Leases.{uncapped, block_ty, block_size, block_align, args}
use Rattle.core.proofs.slots.Places.{sz}
use Rattle.std.proofs.raw_atomic.Walks.{proved_at, leaves}
use Rattle.gap_word.specs.Block.{block_owns}
use Rattle.gap_word.specs.contracts.block.Block as block
use Rattle.gap_word.specs.contracts.block.Block.free.{ended, clauses}
use Rattle.gap_word.specs.contracts.block.Block.free.Key.{name as #self}
use Rattle.gap_word.proofs.Fields.{pointing, pointing_told}
use Rattle.gap_word.proofs.block.Block.free.Statement.{statement}
use Rattle.gap_word.proofs.block.Block.free.Code as code

pub free_spec : {M : Type 1} → statement M
free_spec 𝓤 𝓛 𝓜 𝓡 wired X U L LU g d dd met _ =
    let H = 𝓛.H in
    let 𝓣 = tables 𝓤 H 𝓜 𝓡 𝓡.env in
    let Z : Al = record { row = U; laws = LU; g = g; d = d; drops = dd } in
    let E : El = record { row = X; laws = L } in
    let R : RattleType = param 0 X in
    let fn : Fn = inst_fn (args E Z) code.function in
    let Held = plain (λ _. block.the_row R (param 1 U) g) in
    let Heap = RefOf (0 ∷ []) tt (plain (λ _. param 1 U)) (λ _. tt) in
    let Count = plain (λ _. usize) in
    let En = ended X U g d dd in
    let c = clauses X U g d dd 𝓛 𝓜.mem 𝓡.returns in
    let stays : Stays En.signature.params En.kept =
    (stay_dropped Held no, (stay_dropped Heap yes, (stay_dropped Count yes, tt))) in
    proved_at 𝓛 En stays c 𝓜 𝓡 (
      Goes-dropped 𝓛 3 Held no (λ κs x f. refl),
      (Goes-dropped 𝓛 3 Heap yes (λ κs x f. refl), (Goes-dropped 𝓛 3 Count yes (λ κs x f. refl), tt)),
    )
    (#self (args E Z)) fn (code.unfolded 𝓤 H 𝓜 𝓡 wired (X, (U, tt)) d dd) (λ z are.
    let Post : Val → SProp 𝓤 = (walk_of 𝓛 En stays c).post z in
    let κ = z.0.0.0 in
    let κA = z.0.0.1.1.0 in
    let q = z.0.1.0 in
    let others : Fml = fsep (flft z.0.0.1.0 z.0.1.1.0) (fsep (flft κA z.0.1.1.1.0) ftrue) in
    let a = z.0.3 in
    let vss = z.0.4 in
    let x = a.0 in
    let heap : U.Denot = a.1.0.now in
    let from : ℕ × ℕ = a.1.0.ref_ptr in
    let n : ℕ = a.1.1.0 in
    let τ : Ty = block_ty E n in
    let Asked : Type 0 = (x.len ≡ n) × (x.heap ≡ heap) in
    qed 𝓛 (((‵ (flft κ q) ⊛ ‵ others) ⊛ ‵ (owns (types_at En.signature.params z.0.0) a vss))
    ∷ (raw (fact 𝓤 (z.0.0.1.0 ⊑ X.lives)) ⊛ raw (fact 𝓤 (κA ⊑ U.lives)) ⊛ raw (fact 𝓤 Asked)) ∷ []) ∵
    move ! (1 ∷ []) $ split3 ! $ drop ! $ heard ! (κA ⊑ U.lives) (λ lives. heard ! Asked (λ asked.
    -- [the block; the allocator; the count; both tokens]
    split ! $ split ! $ move ! (2 ∷ []) $ fsplit3 ! $ fsplit ! $ drop ! $
    rewrite ! 0 (λ (u : ℕ × U.Denot). ‵ (block_owns (token Z u.1) R x.ptr u.0))
    (λ i. (asked.0 i, asked.1 i)) refl $
    fsplit ! $ fpick ! (λ fits. drop ! $
    in_a_block ! x.ptr (λ r. fsep (room_for τ r) (token Z heap τ r))
    (fst∗ 𝓤 (never 𝓤) (sem 𝓛 (token Z heap τ null_ptr))) (λ b o at.
    let p : Ptr = block_ptr b o in
    let size : ℕ = sz E in
    let less : n * size < 2 ^ 63 = fits.0 in
    let bytes : n * size < 2 ^ 64 = omega arith in
    let told = pointing_told x.ptr vss.0 are.0.0 ∙ (λ i. pointing (at i) ∷ []) in
    fsplit ! $ move ! (2 ∷ []) $ fsplit ! $ keep ! (2 ∷ 3 ∷ 1 ∷ 5 ∷ 6 ∷ []) $
    regoal ! (λ (us : List Val). prop (WpFn 𝓤 H 𝓣.C 𝓣.Λ fn us Post))
    (λ i. told i ++ (are.1.0.0 i ++ (are.1.1.0.0 i ++ []))) refl $
    enter ! 𝓣.C 𝓣.Λ fn (pointing p ∷ vptr from.0 from.1 ∷ vint w64 n ∷ []) Post $
    alloc_all ! (λ l. pass_all ! refl
    ((tt, (tt, (tt, tt))), ((tt, tt), ((tt, record { fits = are.1.1.0.1 }), tt))) $
    let Ev : Env 𝓤 H = env fn.locals l in
    let unit : ℕ = capped (align (elτ E)) in
    let y = at_gives Z 𝓛 𝓜.mem 𝓡.returns κ q from heap b o (n * size) unit τ in
    -- [the room; the right to free it; the allocator; its token; the other tokens]
    sets ! (of_opd ! (get_in ! (fld ! refl (stop !)) (sub ! 0 refl (whole !)))) refl (tt, tt) $
    first ! $ blocks ! $ sets ! (of_opd ! (get ! refl)) refl (tt, tt) $
    sets ! (is ! (bin ! (get ! refl) (size_word !)
    (record { fits = subst (λ (k : ℕ). k < 2 ^ 64) (sym (uncapped n size bytes)) bytes }))
    (ap (vint w64) (uncapped n size bytes))) refl (tt, record { fits = bytes }) $
    move ! (2 ∷ 3 ∷ []) $ join ! $ move ! (1 ∷ 2 ∷ 0 ∷ []) $ use3 𝓛 (raw ((Gives Z 𝓛 𝓜.mem 𝓡.returns).pre y))
    (Gives-goes Z 𝓛 𝓜.mem 𝓡.returns κ q from heap (Incl-trans z.0.2.0 lives) b o (n * size) unit τ
    (block_size E n bytes) (block_align E n) bytes (capped_fits (align (elτ E)))) $
    calls_at_last ! (fm 𝓛 𝓜 𝓡) (Gives Z 𝓛 𝓜.mem 𝓡.returns) (met.deallocate dd) y
    (and_then ! (get ! refl) (and_then ! (get ! refl)
    (and_then ! (get ! refl) (and_then ! (align_word !) (no_more !))))) (λ v.
    use1 𝓛 (later (given (v ≡ vunit) (‵ (flft κ q))))
    (Gives-Gives Z 𝓛 𝓜.mem 𝓡.returns κ q from heap b o (n * size) unit τ v) $ await ! tt $ learn ! (λ gone.
    lands_last ! refl (subst (λ (u : Val). T (has_ty ty_unit u) × WT u) (sym gone) (tt, tt)) $
    exec ! 𝓣.C 𝓣.Λ Ev (after 2 fn.body) (at_ret Ev Post) $
    sets ! (of_opd ! (unit_lit !)) refl (tt, tt) $ returns ! (look_at ! 0 refl) $ free_all ! refl $
    join ! $ nothing ! $ feq_i ! (List Val) (vunit ∷ []) (vunit ∷ []) refl $
    nothing ! $ nothing ! $ fjoin ! $ nothing ! $ nothing ! $ fjoin3 ! $ keep ! (3 ∷ 0 ∷ 1 ∷ 2 ∷ []) $
    by ! (leaves 𝓛 En stays c z vunit tt (tt, (tt, (tt, tt))) (tt, (tt, (tt, tt))))))))))))
