pub mod MentionLaws
