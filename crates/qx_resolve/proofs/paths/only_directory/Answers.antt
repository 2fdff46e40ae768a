use Rattle.std.proofs.Common.{◌≡◌, sym, ap, ◌∙◌}
use Rattle.std.specs.Prelude.{Some, None}
use Rattle.qx_records.specs.declared.kind.Kind.TheVariants as kinds
use Rattle.qx_resolve.proofs.MeantEntries.{directory_meant, none_directory, other_meant}
use Rattle.qx_resolve.proofs.paths.only_directory.Goals as goal

pub returns-in_default-clause-directory : goal.returns-in_default-clause-directory
returns-in_default-clause-directory c = λ m t told. sym (none_directory m c.args.state.now t told c.args.n (sym c.live_inode.ensures ∙ c.in_default.is))

pub returns-in-Some-Directory-clause-directory : goal.returns-in-Some-Directory-clause-directory
returns-in-Some-Directory-clause-directory c = λ m t told.
    sym (directory_meant m c.args.state.now t told c.args.n c.in-Some.inode (sym c.live_inode.ensures ∙ c.in-Some.is) (sym c.of.ensures ∙ c.in-Some-Directory.is ∙ ap (λ k. Some k) c.in-Some-Directory.field-0-is))

pub returns-in_default-of-2-clause-directory : goal.returns-in_default-of-2-clause-directory
returns-in_default-of-2-clause-directory c = λ m t told.
    sym (other_meant m c.args.state.now t told c.args.n c.in-Some.inode (sym c.live_inode.ensures ∙ c.in-Some.is) (λ d. let both : None ≡ Some kinds.Directory = sym c.in_default-of.is ∙ c.of.ensures ∙ d in absurd (cc)))
