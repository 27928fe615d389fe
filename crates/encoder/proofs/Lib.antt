pub mod EncoderLaws
