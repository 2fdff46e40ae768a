use Rattle.std.proofs.Common.{refl}
use Rattle.qx_fields.specs.Number.{field, fields}
use Rattle.qx_records.specs.InodeRecord.{inode_in, kind_of}
use Rattle.qx_records.specs.NameRecord.{raw_in, long_name_in}
use Rattle.qx_records.specs.NameSum.{name_sum_of, name_sum_signed_of}
use Rattle.qx_view.proofs.examples.the_findings_of_changed_volumes.Goals as goal

pub returns-clause-levels : goal.returns-clause-levels
unfolding field fields inode_in kind_of raw_in long_name_in name_sum_of name_sum_signed_of
returns-clause-levels c = refl

pub returns-clause-large : goal.returns-clause-large
unfolding field fields inode_in kind_of raw_in long_name_in name_sum_of name_sum_signed_of
returns-clause-large c = refl

pub returns-clause-past_the_blocks : goal.returns-clause-past_the_blocks
unfolding field fields inode_in kind_of raw_in long_name_in name_sum_of name_sum_signed_of
returns-clause-past_the_blocks c = refl

pub returns-clause-of_the_half : goal.returns-clause-of_the_half
unfolding field fields inode_in kind_of raw_in long_name_in name_sum_of name_sum_signed_of
returns-clause-of_the_half c = refl

pub returns-clause-empty_link : goal.returns-clause-empty_link
unfolding field fields inode_in kind_of raw_in long_name_in name_sum_of name_sum_signed_of
returns-clause-empty_link c = refl

pub returns-clause-short_link : goal.returns-clause-short_link
unfolding field fields inode_in kind_of raw_in long_name_in name_sum_of name_sum_signed_of
returns-clause-short_link c = refl

pub returns-clause-long_link : goal.returns-clause-long_link
unfolding field fields inode_in kind_of raw_in long_name_in name_sum_of name_sum_signed_of
returns-clause-long_link c = refl

pub returns-clause-special : goal.returns-clause-special
unfolding field fields inode_in kind_of raw_in long_name_in name_sum_of name_sum_signed_of
returns-clause-special c = refl

pub returns-clause-bad_length : goal.returns-clause-bad_length
unfolding field fields inode_in kind_of raw_in long_name_in name_sum_of name_sum_signed_of
returns-clause-bad_length c = refl

pub returns-clause-unused : goal.returns-clause-unused
unfolding field fields inode_in kind_of raw_in long_name_in name_sum_of name_sum_signed_of
returns-clause-unused c = refl

pub returns-clause-no_long_name : goal.returns-clause-no_long_name
unfolding field fields inode_in kind_of raw_in long_name_in name_sum_of name_sum_signed_of
returns-clause-no_long_name c = refl

pub returns-clause-past_the_long_names : goal.returns-clause-past_the_long_names
unfolding field fields inode_in kind_of raw_in long_name_in name_sum_of name_sum_signed_of
returns-clause-past_the_long_names c = refl

pub returns-clause-other_sum : goal.returns-clause-other_sum
unfolding field fields inode_in kind_of raw_in long_name_in name_sum_of name_sum_signed_of
returns-clause-other_sum c = refl

pub returns-clause-right_sum : goal.returns-clause-right_sum
unfolding field fields inode_in kind_of raw_in long_name_in name_sum_of name_sum_signed_of
returns-clause-right_sum c = refl

pub returns-clause-slash : goal.returns-clause-slash
unfolding field fields inode_in kind_of raw_in long_name_in name_sum_of name_sum_signed_of
returns-clause-slash c = refl

pub returns-clause-same_name : goal.returns-clause-same_name
unfolding field fields inode_in kind_of raw_in long_name_in name_sum_of name_sum_signed_of
returns-clause-same_name c = refl

pub returns-clause-other_dot : goal.returns-clause-other_dot
unfolding field fields inode_in kind_of raw_in long_name_in name_sum_of name_sum_signed_of
returns-clause-other_dot c = refl

pub returns-clause-other_dots : goal.returns-clause-other_dots
unfolding field fields inode_in kind_of raw_in long_name_in name_sum_of name_sum_signed_of
returns-clause-other_dots c = refl

pub returns-clause-past_the_inodes : goal.returns-clause-past_the_inodes
unfolding field fields inode_in kind_of raw_in long_name_in name_sum_of name_sum_signed_of
returns-clause-past_the_inodes c = refl

pub returns-clause-no_kind : goal.returns-clause-no_kind
unfolding field fields inode_in kind_of raw_in long_name_in name_sum_of name_sum_signed_of
returns-clause-no_kind c = refl

pub returns-clause-top_again : goal.returns-clause-top_again
unfolding field fields inode_in kind_of raw_in long_name_in name_sum_of name_sum_signed_of
returns-clause-top_again c = refl

pub returns-clause-file : goal.returns-clause-file
unfolding field fields inode_in kind_of raw_in long_name_in name_sum_of name_sum_signed_of
returns-clause-file c = refl

pub returns-clause-top_of_no_kind : goal.returns-clause-top_of_no_kind
unfolding field fields inode_in kind_of raw_in long_name_in name_sum_of name_sum_signed_of
returns-clause-top_of_no_kind c = refl

pub returns-clause-top_no_directory : goal.returns-clause-top_no_directory
unfolding field fields inode_in kind_of raw_in long_name_in name_sum_of name_sum_signed_of
returns-clause-top_no_directory c = refl
